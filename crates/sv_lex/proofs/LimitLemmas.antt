-- Lists of tokens, searched from their beginning for one that is not allowed.
use Rattle.std.proofs.Common.{◌≡◌, ◌≢◌, ℕ, suc, ◌+◌, ◌-◌, ◌<◌, ◌≤◌, ◌⊎◌, inl, inr, Bool, true, false, ◌||◌, if◌then◌else◌, arith, Some, List, [], ◌∷◌, ◌++◌, All, map, length, take, drop, get_or, refl, sym, ap, ◌∙◌, subst, append_assoc}
use Rattle.std.specs.List.{list_any}
use Rattle.std.proofs.Math.Seq.{drop-cons}
use Rattle.std.proofs.lemmas.List.{take_more, map_push, map-append, take-append-drop, take_all, same_from_push}
use Rattle.std.proofs.lemmas.List.Elements.{All-get_or, All-nil, All-cons, All-head, All-tail}
use Rattle.sv_lex.specs.Lexing.{IsOf, shown, Scanned, GivesFirst}
use Rattle.sv_lex.specs.Limits.{HasNo, IsDeep, IsLong, opened, opens_bracket, closes_bracket, restarts}
use Rattle.sv_lex.specs.NestingFound.{IsBracket, IsShallow, in_a_row}
use Rattle.sv_lex.specs.declared.nesting.Bracket.TheVariants as bracket
use Rattle.sv_lex.specs.declared.nesting.Bracket.TheVariants.{Opens, Closes}
use Rattle.sv_lex.specs.Tokens.{Lexeme}
use Rattle.sv_lex.specs.declared.token.Token.{Token}

pub any_of_map : {A B : Type 0} (f : A → B) (p : B → Bool) (xs : List A) → list_any p (map f xs) ≡ list_any (λ x. p (f x)) xs
any_of_map f p [] = refl
any_of_map f p (x ∷ xs) = ap (λ b. p (f x) || b) (any_of_map f p xs)

-- a list is empty or has a last element
pub last_of : {A : Type 0} (xs : List A) → (xs ≡ []) ⊎ ((front : List A) × (x : A) × (xs ≡ front ++ x ∷ []))
last_of [] = inl refl
last_of (x ∷ xs) = elim (last_of xs) [
  | inl none ↦ inr ([], x, ap (λ l. x ∷ l) none)
  | inr w ↦ inr (x ∷ w.0, w.1, ap (λ l. x ∷ l) w.2)
]

-- the tokens up to the next, that one, and those behind it
shown_more : (items : List Token) (i : ℕ) (d : Token) → i < length items → map shown (take (i + 1) items) ≡ map shown (take i items) ++ shown (get_or items i d) ∷ []
shown_more items i d within = ap (map shown) (take_more items i d within) ∙ map_push shown (take i items) (get_or items i d)

shown_around : (items : List Token) (i : ℕ) (d : Token) → i < length items
    → map shown items ≡ map shown (take i items) ++ shown (get_or items i d) ∷ map shown (drop (suc i) items)
shown_around items i d within =
    ap (map shown) (sym (take-append-drop i items) ∙ ap (λ l. take i items ++ l) (drop-cons items i d within))
    ∙ map-append shown (take i items) (get_or items i d ∷ drop (suc i) items)

module _ (Such : List Lexeme → Lexeme → Type 0) where
  pub HasNo-nil : HasNo Such []
  HasNo-nil = λ before after t cut such. elim before as (λ before. [] ≡ before ++ t ∷ after → ⊥) [ [] ↦ λ cut. cc | _ ∷ _ ↦ λ cut. cc ] cut

  HasNo-push : (front : List Lexeme) (t : Lexeme) → HasNo Such front → (Such front t → ⊥) → HasNo Such (front ++ t ∷ [])
  HasNo-push front t none not_this = λ before after u cut such. elim (last_of after) [
    | inl empty ↦
        let both = same_from_push front before t u (cut ∙ ap (λ a. before ++ u ∷ a) empty) in
        not_this (subst (λ u. Such front u) (sym both.1) (subst (λ b. Such b u) (sym both.0) such))
    | inr w ↦
        let both = same_from_push front (before ++ u ∷ w.0) t w.1 (cut ∙ ap (λ a. before ++ u ∷ a) w.2 ∙ sym (append_assoc before (u ∷ w.0) (w.1 ∷ []))) in
        none before w.0 u both.0 such
  ]

  -- one token more is not such
  pub HasNo-more : (items : List Token) (i : ℕ) (d : Token) → i < length items → HasNo Such (map shown (take i items))
      → (Such (map shown (take i items)) (shown (get_or items i d)) → ⊥) → HasNo Such (map shown (take (i + 1) items))
  HasNo-more items i d within none not_this =
      subst (HasNo Such) (sym (shown_more items i d within)) (HasNo-push (map shown (take i items)) (shown (get_or items i d)) none not_this)

  -- none of them all is such
  pub HasNo-all : (list : List Lexeme) (items : List Token) (i : ℕ) → map shown items ≡ list → length items ≤ i → HasNo Such (map shown (take i items)) → HasNo Such list
  HasNo-all list items i list_is end none = subst (HasNo Such) (ap (map shown) (take_all i items end) ∙ list_is) none

  -- the next is the first that is such
  pub given_first : (scanned : Scanned) (items : List Token) (i : ℕ) (d : Token) → map shown items ≡ scanned.list → All (IsOf scanned.source) items
      → i < length items → HasNo Such (map shown (take i items)) → Such (map shown (take i items)) (shown (get_or items i d))
      → GivesFirst Such scanned (Some (get_or items i d).place)
  given_first scanned items i d list_is places within none such = (
    map shown (take i items),
    shown (get_or items i d),
    record {
      after = map shown (drop (suc i) items);
      cut = sym list_is ∙ shown_around items i d within;
      such = such;
      none_before = λ front back u cut. none front back u cut;
    },
    (All-get_or (IsOf scanned.source) items i d within places).place,
  )

-- ---- brackets, and tokens in a row

-- how many brackets are open behind one token more
abbrev pub changed : ℕ → Lexeme → ℕ
changed n t = if opens_bracket t then n + 1 else (if closes_bracket t then n - 1 else n)

opened-push : (n : ℕ) (ts : List Lexeme) (t : Lexeme) → opened n (ts ++ t ∷ []) ≡ changed (opened n ts) t
opened-push n [] t = refl
opened-push n (u ∷ ts) t = opened-push (changed n u) ts t

pub changed-opens : (n : ℕ) (t : Lexeme) → IsBracket t Opens → changed n t ≡ n + 1
changed-opens n t opens = ap (λ b. if b then n + 1 else (if closes_bracket t then n - 1 else n)) opens

pub changed-closes : (n : ℕ) (t : Lexeme) → IsBracket t Closes → changed n t ≡ n - 1
changed-closes n t (opens, closes) = ap (λ b. if b then n + 1 else (if closes_bracket t then n - 1 else n)) opens ∙ ap (λ b. if b then n - 1 else n) closes

pub changed-none : (n : ℕ) (t : Lexeme) → IsBracket t bracket.None → changed n t ≡ n
changed-none n t (opens, closes) = ap (λ b. if b then n + 1 else (if closes_bracket t then n - 1 else n)) opens ∙ ap (λ b. if b then n - 1 else n) closes

-- how many tokens are in a row behind one token more
abbrev pub counted : ℕ → Lexeme → ℕ
counted n t = if restarts t then 0 else n + 1

in_a_row-push : (n : ℕ) (ts : List Lexeme) (t : Lexeme) → in_a_row n (ts ++ t ∷ []) ≡ counted (in_a_row n ts) t
in_a_row-push n [] t = refl
in_a_row-push n (u ∷ ts) t = in_a_row-push (counted n u) ts t

in_a_row-append : (n : ℕ) (front run : List Lexeme) → in_a_row n (front ++ run) ≡ in_a_row (in_a_row n front) run
in_a_row-append n [] run = refl
in_a_row-append n (t ∷ front) run = in_a_row-append (counted n t) front run

-- where none of them begins the count anew, they all count
in_a_row-unbroken : (n : ℕ) (run : List Lexeme) → All (λ t. restarts t ≡ false) run → in_a_row n run ≡ n + length run
in_a_row-unbroken n [] all = omega arith
in_a_row-unbroken n (t ∷ run) all =
    ap (λ b. in_a_row (if b then 0 else n + 1) run) (All-head (λ t. restarts t ≡ false) t run all)
    ∙ in_a_row-unbroken (n + 1) run (All-tail (λ t. restarts t ≡ false) t run all)
    ∙ omega arith

-- the tokens that count are the last
record LastRun (n : ℕ) (list : List Lexeme) : Type 0 where
  front : List Lexeme
  run : List Lexeme
  cut : list ≡ front ++ run
  unbroken : All (λ t. restarts t ≡ false) run
  counted_are : ((front ≡ []) × (in_a_row n list ≡ n + length run)) ⊎ (in_a_row n list ≡ length run)

last_run : (n : ℕ) (list : List Lexeme) → LastRun n list
last_run n [] = record { front = []; run = []; cut = refl; unbroken = All-nil (λ t. restarts t ≡ false); counted_are = inl (refl, omega arith) }
last_run n (t ∷ ts) = elim (restarts t) as (λ b. restarts t ≡ b → LastRun n (t ∷ ts)) [
  | true ↦ λ anew.
      let rest = last_run 0 ts in
      let same : in_a_row n (t ∷ ts) ≡ in_a_row 0 ts = ap (λ b. in_a_row (if b then 0 else n + 1) ts) anew in record {
        front = t ∷ rest.front;
        run = rest.run;
        cut = ap (λ l. t ∷ l) rest.cut;
        unbroken = rest.unbroken;
        counted_are = inr (elim rest.counted_are [ inl w ↦ omega (arith, same, w.1) | inr e ↦ same ∙ e ]);
      }
  | false ↦ λ on.
      let rest = last_run (n + 1) ts in
      let same : in_a_row n (t ∷ ts) ≡ in_a_row (n + 1) ts = ap (λ b. in_a_row (if b then 0 else n + 1) ts) on in
      elim rest.counted_are [
        | inl w ↦ record {
          front = [];
          run = t ∷ rest.run;
          cut = ap (λ l. t ∷ l) (rest.cut ∙ ap (λ l. l ++ rest.run) w.0);
          unbroken = All-cons (λ t. restarts t ≡ false) t rest.run on rest.unbroken;
          counted_are = inl (refl, omega (arith, same, w.1));
        }
        | inr e ↦ record {
          front = t ∷ rest.front;
          run = rest.run;
          cut = ap (λ l. t ∷ l) rest.cut;
          unbroken = rest.unbroken;
          counted_are = inr (same ∙ e);
        }
      ]
] refl

-- 1,000 tokens or more are in a row exactly where the list says so
long_row : (before : List Lexeme) → 1000 ≤ in_a_row 0 before → IsLong before
long_row before many =
    let last = last_run 0 before in record {
      front = last.front;
      run = last.run;
      cut = last.cut;
      long = elim last.counted_are [ inl w ↦ omega (arith, w.1) | inr e ↦ omega (arith, e) ];
      unbroken = last.unbroken;
    }

row_of_long : (before : List Lexeme) → IsLong before → 1000 ≤ in_a_row 0 before
row_of_long before l =
    let all = ap (in_a_row 0) l.cut ∙ in_a_row-append 0 l.front l.run ∙ in_a_row-unbroken (in_a_row 0 l.front) l.run l.unbroken in
    omega (arith, all, l.long)

-- behind such tokens the next is too deep where it opens too many brackets, or where the row is full
pub is_deep : (before : List Lexeme) (t : Lexeme) (brackets row : ℕ) → IsShallow before brackets row → (64 < changed brackets t) ⊎ (row ≡ 1000) → IsDeep before t
is_deep before t brackets row known why = elim why [
  | inl many ↦ inl (subst (λ n. 64 < n) (ap (λ n. changed n t) known.brackets_are ∙ sym (opened-push 0 before t)) many)
  | inr full ↦ inr (long_row before (omega (arith, known.row_is, full)))
]

-- else it is not, and as much is known behind it
pub is_shallow : (items : List Token) (i : ℕ) (d : Token) (brackets row : ℕ) → i < length items → IsShallow (map shown (take i items)) brackets row
    → changed brackets (shown (get_or items i d)) ≤ 64 → row ≢ 1000
    → IsShallow (map shown (take (i + 1) items)) (changed brackets (shown (get_or items i d))) (counted row (shown (get_or items i d)))
is_shallow items i d brackets row within known few short =
    let before = map shown (take i items) in
    let t = shown (get_or items i d) in
    let brackets_same = ap (λ n. changed n t) known.brackets_are ∙ sym (opened-push 0 before t) in
    let row_same = ap (λ n. counted n t) known.row_is ∙ sym (in_a_row-push 0 before t) in record {
      none = HasNo-more IsDeep items i d within known.none (λ deep. elim deep [
        | inl many ↦ let n : 64 < changed brackets t = subst (λ n. 64 < n) (sym brackets_same) many in omega arith
        | inr long ↦ let n = row_of_long before long in omega (arith, n, known.row_is, known.row_fits)
      ]);
      brackets_are = brackets_same ∙ ap (opened 0) (sym (shown_more items i d within));
      row_is = row_same ∙ ap (in_a_row 0) (sym (shown_more items i d within));
      brackets_fit = few;
      row_fits = elim (restarts t) as (λ b. (if b then 0 else row + 1) ≤ 1000) [ true ↦ omega arith | false ↦ omega (arith, known.row_fits) ];
    }

pub shallow_start : IsShallow [] 0 0
shallow_start = record { none = HasNo-nil IsDeep; brackets_are = refl; row_is = refl; brackets_fit = omega arith; row_fits = omega arith }
