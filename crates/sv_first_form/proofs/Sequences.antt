-- Parts that stand one after another in a fixed order, and parts that are read as another part.
use Rattle.std.proofs.Common.{◌≡◌, ℕ, List, [], ◌∷◌, ◌++◌, ◌<◌, ◌≤◌, arith, refl, sym, ap, ◌∙◌, ◌-◌, length, take, drop, map, Some, None, slice_get}
use Rattle.std.proofs.lemmas.Option.{none-some}
use Rattle.std.proofs.lemmas.List.{append_assoc, take_rest}
use Rattle.sv_first_form.specs.FormReading.{Part, IsFirst, Fails, is_unbuilt, no_memory, Begins, BeginsKind, exact, any_text, both, at_most}
use Rattle.sv_first_form.specs.FormSymbols.{Symbol, symbol, symbol_with}
use Rattle.sv_first_form.specs.declared.form_error.FormError.{FormError}
use Rattle.sv_first_form.specs.declared.form_error.FormError.TheVariants.{Unbuilt, NoMemory}
use Rattle.sv_lex.specs.declared.tok.Tok.{Tok}
use Rattle.sv_lex.specs.declared.token.Token.{Token}

pub exact_first : {t : Symbol} {ts us : List Symbol} → ts ≡ t ∷ us → IsFirst (exact t) ts tt us
unfolding exact
exact_first h = record { spelled = h; formed = tt; only = λ y more formed stops e. (refl, cc) }

pub exact_fails : {t : Symbol} {ts : List Symbol} → (Begins t ts → ⊥) → Fails (exact t) ts Unbuilt
unfolding exact
exact_fails h = is_unbuilt (record { none = λ y more formed stops e. h (more, e) })

pub text_first : {kind : Tok} {text : List ℕ} {ts us : List Symbol} → ts ≡ symbol_with kind text ∷ us → IsFirst (any_text kind) ts text us
unfolding any_text
text_first {kind} {text} h = record { spelled = h; formed = tt; only = λ y more formed stops e. let heads : symbol_with kind y ≡ symbol_with kind text = cc in (ap (λ t. t.text) heads, cc) }

pub text_fails : {kind : Tok} {ts : List Symbol} → (BeginsKind kind ts → ⊥) → Fails (any_text kind) ts Unbuilt
unfolding any_text
text_fails h = is_unbuilt (record { none = λ y more formed stops e. h (y, (more, e)) })

-- what stands before a part q is what may follow a part p
pub record Precedes {X Y : Type 0} (p : Part X) (q : Part Y) : Type 0 where
  pub before : (y : Y) (more : List Symbol) → q.Formed y → q.Stops more → p.Stops (q.print y ++ more)

pair_same : {X Y : Type 0} (a : X × Y) (x : X) (y : Y) → a.0 ≡ x → a.1 ≡ y → a ≡ (x, y)
pair_same {X} {Y} a x y e f =
    ap (λ (b : X). let t : X × Y = (b, a.1) in t) e ∙ ap (λ (b : Y). let t : X × Y = (x, b) in t) f

module _ {X Y : Type 0} {p : Part X} {q : Part Y} where
  pub both_first : {ts us vs : List Symbol} {x : X} {y : Y} → Precedes p q → IsFirst p ts x us → IsFirst q us y vs → IsFirst (both p q) ts (x, y) vs
  unfolding both
  both_first {ts} {us} {vs} {x} {y} before one two = record {
    spelled = one.spelled ∙ ap (λ t. p.print x ++ t) two.spelled ∙ sym (append_assoc (p.print x) (q.print y) vs);
    formed = (one.formed, two.formed);
    only = λ pair more formed stops e.
        let a = one.only pair.0 (q.print pair.1 ++ more) formed.0 (before.before pair.1 more formed.1 stops) (e ∙ append_assoc (p.print pair.0) (q.print pair.1) more) in
        let b = two.only pair.1 more formed.1 stops (sym a.1) in
        (pair_same pair x y a.0 b.0, b.1);
  }

  pub both_fails : {ts : List Symbol} {e : FormError} → Precedes p q → Fails p ts e → Fails (both p q) ts e
  unfolding both
  both_fails before (is_unbuilt absent) = is_unbuilt (record {
    none = λ pair more formed stops e. absent.none pair.0 (q.print pair.1 ++ more) formed.0 (before.before pair.1 more formed.1 stops) (e ∙ append_assoc (p.print pair.0) (q.print pair.1) more);
  })
  both_fails before no_memory = no_memory

  pub both_fails_late : {ts us : List Symbol} {x : X} {e : FormError} → Precedes p q → IsFirst p ts x us → Fails q us e → Fails (both p q) ts e
  unfolding both
  both_fails_late before one (is_unbuilt absent) = is_unbuilt (record {
    none = λ pair more formed stops e.
        let a = one.only pair.0 (q.print pair.1 ++ more) formed.0 (before.before pair.1 more formed.1 stops) (e ∙ append_assoc (p.print pair.0) (q.print pair.1) more) in
        absent.none pair.1 more formed.1 stops (sym a.1);
  })
  both_fails_late before one no_memory = no_memory

-- a part p in front of these tokens is a part q, and each part q in front of them is such a part p
pub record IsLike {X Y : Type 0} (p : Part X) (q : Part Y) (f : X → Y) (ts : List Symbol) : Type 0 where
  pub prints : (x : X) → q.print (f x) ≡ p.print x
  pub forms : (x : X) → p.Formed x → q.Formed (f x)
  pub from : (y : Y) (more : List Symbol) → q.Formed y → ts ≡ q.print y ++ more → (x : X) × (y ≡ f x) × p.Formed x
  pub stops : (more : List Symbol) → q.Stops more → p.Stops more

module _ {X Y : Type 0} {p : Part X} {q : Part Y} {f : X → Y} {ts : List Symbol} where
  pub like_first : {x : X} {us : List Symbol} → IsLike p q f ts → IsFirst p ts x us → IsFirst q ts (f x) us
  like_first {x} {us} like first = record {
    spelled = first.spelled ∙ ap (λ t. t ++ us) (sym (like.prints x));
    formed = like.forms x first.formed;
    only = λ y more formed stops e.
        let w = like.from y more formed e in
        let same = first.only w.0 more w.2 (like.stops more stops) (e ∙ ap (λ z. q.print z ++ more) w.1 ∙ ap (λ t. t ++ more) (like.prints w.0)) in
        (w.1 ∙ ap f same.0, same.1);
  }

  pub like_fails : {e : FormError} → IsLike p q f ts → Fails p ts e → Fails q ts e
  like_fails like (is_unbuilt absent) = is_unbuilt (record {
    none = λ y more formed stops e.
        let w = like.from y more formed e in
        absent.none w.0 more w.2 (like.stops more stops) (e ∙ ap (λ z. q.print z ++ more) w.1 ∙ ap (λ t. t ++ more) (like.prints w.0));
  })
  like_fails like no_memory = no_memory

pub fails_memory : {X : Type 0} {part : Part X} {ts : List Symbol} {e : FormError} → e ≡ NoMemory → Fails part ts e
fails_memory h = rw h no_memory

-- the first symbol, and those of the tokens after it
pub first_and_rest : (ts : List Symbol) (inside : List Token) (t : Symbol) → map symbol inside ≡ ts → Begins t ts
    → ts ≡ t ∷ map symbol (take (length inside - 1) (drop 1 inside))
first_and_rest ts [] t same begins = let none : [] ≡ t ∷ begins.0 = same ∙ begins.1 in cc
first_and_rest ts (x ∷ xs) t same begins =
    let head : symbol x ≡ t = cc in
    let rest : take (length (x ∷ xs) - 1) (drop 1 (x ∷ xs)) ≡ xs = take_rest (x ∷ xs) 1 in
    sym same ∙ ap (λ s. s ∷ map symbol xs) head ∙ ap (λ us. t ∷ map symbol us) (sym rest)

-- the symbols begin with that of the first token, and with one of no other kind
pub begins_with : (ts : List Symbol) (inside : List Token) (t : Token) (kind : Tok) (text : List ℕ) → map symbol inside ≡ ts → slice_get inside 0 ≡ Some t
    → t.kind ≡ kind → t.text.now ≡ text → Begins (symbol_with kind text) ts
begins_with ts [] t kind text same e of_kind of_text = absurd (none-some t e)
begins_with ts (x ∷ xs) t kind text same e of_kind of_text =
    let head : x ≡ t = cc in
    let first : symbol x ≡ symbol_with kind text =
    ap symbol head ∙ ap (λ k. symbol_with k t.text.now) of_kind ∙ ap (λ s. symbol_with kind s) of_text in
    (map symbol xs, sym same ∙ ap (λ s. s ∷ map symbol xs) first)

pub begins_nothing : (ts : List Symbol) (inside : List Token) (kind : Tok) → map symbol inside ≡ ts → slice_get inside 0 ≡ None → BeginsKind kind ts → ⊥
begins_nothing ts [] kind same e (text, begins) = let none : [] ≡ symbol_with kind text ∷ begins.0 = same ∙ begins.1 in cc
begins_nothing ts (x ∷ xs) kind same e begins = none-some x (sym e)

pub begins_kind : (ts : List Symbol) (inside : List Token) (t : Token) (kind : Tok) → map symbol inside ≡ ts → slice_get inside 0 ≡ Some t → BeginsKind kind ts
    → t.kind ≡ kind
begins_kind ts [] t kind same e begins = absurd (none-some t e)
begins_kind ts (x ∷ xs) t kind same e (text, begins) =
    let head : x ≡ t = cc in
    let first : symbol x ≡ symbol_with kind text = cc in
    sym (ap (λ y. y.kind) head) ∙ ap (λ s. s.kind) first

module _ {X : Type 0} {part : Part (List X)} (n : ℕ) {ts : List Symbol} where
  pub at_most_first : {xs : List X} {us : List Symbol} → length xs ≤ n → IsFirst part ts xs us → IsFirst (at_most n part) ts xs us
  unfolding at_most
  at_most_first few first = record { spelled = first.spelled; formed = (first.formed, few); only = λ y more formed stops e. first.only y more formed.0 stops e }

  pub at_most_fails : {e : FormError} → Fails part ts e → Fails (at_most n part) ts e
  unfolding at_most
  at_most_fails (is_unbuilt absent) = is_unbuilt (record { none = λ y more formed stops e. absent.none y more formed.0 stops e })
  at_most_fails no_memory = no_memory

  pub at_most_over : {xs : List X} {us : List Symbol} → n < length xs → IsFirst part ts xs us → Fails (at_most n part) ts Unbuilt
  unfolding at_most
  at_most_over over first = is_unbuilt (record { none = λ y more formed stops e. omega (arith, ap length (first.only y more formed.0 stops e).0, formed.1) })

-- two tokens in front of the same tokens
pub same_kind : {k l : Tok} {a b : List ℕ} {xs ys : List Symbol} → symbol_with k a ∷ xs ≡ symbol_with l b ∷ ys → k ≡ l
same_kind {k} {l} {a} {b} e = let heads : symbol_with k a ≡ symbol_with l b = cc in ap (λ t. t.kind) heads

pub same_text : {k l : Tok} {a b : List ℕ} {xs ys : List Symbol} → symbol_with k a ∷ xs ≡ symbol_with l b ∷ ys → a ≡ b
same_text {k} {l} {a} {b} e = let heads : symbol_with k a ≡ symbol_with l b = cc in ap (λ t. t.text) heads
