-- The machine that reads strings agrees with their form.
use Rattle.std.proofs.Common.{◌≡◌, ◌==◌, ℕ, zero, suc, ◌+◌, ◌-◌, ◌<◌, ◌≤◌, Bool, true, false, not, cond, ◌&&◌, Option, Some, None, List, [], ◌∷◌, ◌++◌, length, get_or, take, drop, nat_lt, nat_le, refl, sym, ap, ap₂, ◌∙◌, subst, arith, inl, inr, length-append, append_assoc, MatchBool, add-one}
use Rattle.std.proofs.lemmas.Bool.{and_parts, not-true, eqb-true, lt-ltb, ltb-true, ltb-false, eq-eqb, ne_eqb, or_cases}
use Rattle.std.proofs.lemmas.List.{append-nil, take_more, take_rest, take_all, take-append-drop, drop_more}
use Rattle.sv_lex.specs.Bytes.{is_quote, is_hex_digit, DoesBegin}
use Rattle.sv_lex.specs.Forms.{is_plain, is_escaped, IsInside, IsString, nothing, plain, escape, code, long_code}
use Rattle.sv_lex.specs.Faults.{BeginsString, IsOpenString, IsStuck, broken_string, string_at_newline, string_at_end}
use Rattle.sv_lex.specs.Strings.{step, EndsString}
use Rattle.sv_lex.specs.declared.string.State.{State}
use Rattle.sv_lex.specs.declared.string.State.TheVariants.{Plain, Escape, Digits}
use Rattle.sv_lex.specs.declared.fault.Flaw.TheVariants.{Char, Unclosed}
use Rattle.sv_lex.specs.declared.string.StringEnd.TheVariants.{Whole, Broken}

-- the state behind several bytes, if they may come
abbrev onward : Option State → (State → Option State) → Option State
onward None f = None
onward (Some state) f = f state

abbrev pub runs : ℕ → List ℕ → State → Option State
runs quote [] state = Some state
runs quote (b ∷ bs) state = onward (step quote state b) (λ next. runs quote bs next)

runs_append : (quote : ℕ) (xs ys : List ℕ) (state : State) → runs quote (xs ++ ys) state ≡ onward (runs quote xs state) (λ next. runs quote ys next)
runs_append quote [] ys state = refl
runs_append quote (x ∷ xs) ys state = by (step quote state x) (λ next. runs_append quote xs ys next)
  where
    by : (o : Option State) → ((next : State) → runs quote (xs ++ ys) next ≡ onward (runs quote xs next) (λ last. runs quote ys last))
        → onward o (λ next. runs quote (xs ++ ys) next) ≡ onward (onward o (λ next. runs quote xs next)) (λ last. runs quote ys last)
    by None on = refl
    by (Some next) on = on next

runs_on : (quote : ℕ) (xs ys : List ℕ) (state next : State) → runs quote xs state ≡ Some next → runs quote (xs ++ ys) state ≡ runs quote ys next
runs_on quote xs ys state next h = runs_append quote xs ys state ∙ ap (λ (o : Option State). onward o (λ last. runs quote ys last)) h

step_on : (quote b : ℕ) (bs : List ℕ) (state next : State) → step quote state b ≡ Some next → runs quote (b ∷ bs) state ≡ runs quote bs next
step_on quote b bs state next h = ap (λ (o : Option State). onward o (λ last. runs quote bs last)) h

-- ---- what stands inside a string leads from Plain to Plain

plain_step : (quote b : ℕ) → is_plain quote b ≡ true → step quote Plain b ≡ Some Plain
plain_step quote b h =
    let printable = and_parts (nat_le 32 b) (nat_le b 126 && (not (b == quote) && not (b == 92))) h in
    let ordinary = and_parts (nat_le b 126) (not (b == quote) && not (b == 92)) printable.1 in
    let apart = and_parts (not (b == quote)) (not (b == 92)) ordinary.1 in
    rw (h, not-true (b == 92) apart.1) refl

escape_step : (quote b : ℕ) → is_escaped b ≡ true → step quote Escape b ≡ Some Plain
escape_step quote b h = rw h refl

digit_step : (quote b left : ℕ) → is_hex_digit b ≡ true → step quote (Digits left) b ≡ cond (nat_lt 1 left) (Some (Digits (left - 1))) (Some Plain)
digit_step quote b left h = rw h refl

inside_runs : (quote : ℕ) (bs : List ℕ) → IsInside quote bs → runs quote bs Plain ≡ Some Plain
inside_runs quote _ nothing = refl
inside_runs quote _ (plain {b} {bs} h more) = step_on quote b bs Plain Plain (plain_step quote b h) ∙ inside_runs quote bs more
inside_runs quote _ (escape {b} {bs} h more) = step_on quote b bs Escape Plain (escape_step quote b h) ∙ inside_runs quote bs more
inside_runs quote _ (code {b} {c} {bs} h i more) =
    step_on quote b (c ∷ bs) (Digits 2) (Digits 1) (digit_step quote b 2 h) ∙ step_on quote c bs (Digits 1) Plain (digit_step quote c 1 i) ∙ inside_runs quote bs more
inside_runs quote _ (long_code {b} {c} {d} {e} {bs} h i j k more) =
    step_on quote b (c ∷ d ∷ e ∷ bs) (Digits 4) (Digits 3) (digit_step quote b 4 h) ∙ step_on quote c (d ∷ e ∷ bs) (Digits 3) (Digits 2) (digit_step quote c 3 i)
    ∙ step_on quote d (e ∷ bs) (Digits 2) (Digits 1) (digit_step quote d 2 j) ∙ step_on quote e bs (Digits 1) Plain (digit_step quote e 1 k) ∙ inside_runs quote bs more

-- ---- and what leads from Plain to Plain stands inside

-- so many digits, one at least, and then what stands inside
abbrev DigitsThen : ℕ → List ℕ → ℕ → Type 0
DigitsThen quote [] left = ⊥
DigitsThen quote (b ∷ bs) left = (is_hex_digit b ≡ true) × MatchBool (nat_lt 1 left) (DigitsThen quote bs (left - 1)) (IsInside quote bs)

-- what may follow each state
abbrev Follows : ℕ → List ℕ → State → Type 0
Follows quote bs Plain = IsInside quote bs
Follows quote bs Escape = IsInside quote (92 ∷ bs)
Follows quote bs (Digits left) = DigitsThen quote bs left

two_digits : (quote : ℕ) (bs : List ℕ) → DigitsThen quote bs 2 → IsInside quote (92 ∷ 120 ∷ bs)
two_digits quote [] h = absurd h
two_digits quote (b ∷ []) h = absurd h.1
two_digits quote (b ∷ c ∷ bs) h = code h.0 h.1.0 h.1.1

four_digits : (quote : ℕ) (bs : List ℕ) → DigitsThen quote bs 4 → IsInside quote (92 ∷ 117 ∷ bs)
four_digits quote [] h = absurd h
four_digits quote (b ∷ []) h = absurd h.1
four_digits quote (b ∷ c ∷ []) h = absurd h.1.1
four_digits quote (b ∷ c ∷ d ∷ []) h = absurd h.1.1.1
four_digits quote (b ∷ c ∷ d ∷ e ∷ bs) h = long_code h.0 h.1.0 h.1.1.0 h.1.1.1.0 h.1.1.1.1

-- one byte more, by its state
abbrev FollowsAll : ℕ → List ℕ → Type 0
FollowsAll quote bs = (state : State) → runs quote bs state ≡ Some Plain → Follows quote bs state

follows_plain : (quote b : ℕ) (bs : List ℕ) (x y : Bool) → (b == 92) ≡ x → is_plain quote b ≡ y
    → onward (cond x (Some Escape) (cond y (Some Plain) None)) (λ next. runs quote bs next) ≡ Some Plain → FollowsAll quote bs → IsInside quote (b ∷ bs)
follows_plain quote b bs true y e f h on = subst (λ (c : ℕ). IsInside quote (c ∷ bs)) (sym (eqb-true b 92 e)) (on Escape h)
follows_plain quote b bs false true e f h on = plain f (on Plain h)
follows_plain quote b bs false false e f h on = cc

follows_escape : (quote b : ℕ) (bs : List ℕ) (x y z : Bool) → is_escaped b ≡ x → (b == 120) ≡ y → (b == 117) ≡ z
    → onward (cond x (Some Plain) (cond y (Some (Digits 2)) (cond z (Some (Digits 4)) None))) (λ next. runs quote bs next) ≡ Some Plain → FollowsAll quote bs → IsInside quote (92 ∷ b ∷ bs)
follows_escape quote b bs true y z e f g h on = escape e (on Plain h)
follows_escape quote b bs false true z e f g h on = subst (λ (c : ℕ). IsInside quote (92 ∷ c ∷ bs)) (sym (eqb-true b 120 f)) (two_digits quote bs (on (Digits 2) h))
follows_escape quote b bs false false true e f g h on = subst (λ (c : ℕ). IsInside quote (92 ∷ c ∷ bs)) (sym (eqb-true b 117 g)) (four_digits quote bs (on (Digits 4) h))
follows_escape quote b bs false false false e f g h on = cc

follows_digits : (quote b left : ℕ) (bs : List ℕ) (x y : Bool) → is_hex_digit b ≡ x → (nat_lt 1 left) ≡ y
    → onward (cond x (cond y (Some (Digits (left - 1))) (Some Plain)) None) (λ next. runs quote bs next) ≡ Some Plain → FollowsAll quote bs
    → (is_hex_digit b ≡ true) × MatchBool y (DigitsThen quote bs (left - 1)) (IsInside quote bs)
follows_digits quote b left bs true true e f h on = (e, on (Digits (left - 1)) h)
follows_digits quote b left bs true false e f h on = (e, on Plain h)
follows_digits quote b left bs false y e f h on = cc

runs_inside : (quote : ℕ) (bs : List ℕ) (state : State) → runs quote bs state ≡ Some Plain → Follows quote bs state
runs_inside quote [] Plain h = nothing
runs_inside quote [] Escape h = cc
runs_inside quote [] (Digits left) h = cc
runs_inside quote (b ∷ bs) Plain h = follows_plain quote b bs (b == 92) (is_plain quote b) refl refl h (λ state. runs_inside quote bs state)
runs_inside quote (b ∷ bs) Escape h = follows_escape quote b bs (is_escaped b) (b == 120) (b == 117) refl refl refl h (λ state. runs_inside quote bs state)
runs_inside quote (b ∷ bs) (Digits left) h = follows_digits quote b left bs (is_hex_digit b) (nat_lt 1 left) refl refl h (λ state. runs_inside quote bs state)

-- ---- each state can go on to the end

digits_complete : (quote left : ℕ) → (bs : List ℕ) × (runs quote bs (Digits left) ≡ Some Plain)
digits_complete quote zero = (48 ∷ [], refl)
digits_complete quote (suc zero) = (48 ∷ [], refl)
digits_complete quote (suc (suc n)) =
    let more = digits_complete quote (suc n) in
    let fewer : suc (suc n) - 1 ≡ suc n = omega arith in
    let several : nat_lt 1 (suc (suc n)) ≡ true = lt-ltb 1 (suc (suc n)) (omega arith) in
    (48 ∷ more.0, rw (several, fewer) more.1)

completes : (quote : ℕ) (state : State) → (bs : List ℕ) × (runs quote bs state ≡ Some Plain)
completes quote Plain = ([], refl)
completes quote Escape = (110 ∷ [], refl)
completes quote (Digits left) = digits_complete quote left

-- ---- the quote ends the string

quote_stops : (quote : ℕ) → is_quote quote ≡ true → step quote Plain quote ≡ None
quote_stops quote q = elim (or_cases (quote == 34) (quote == 39) q) [
  | inl e ↦ subst (λ (c : ℕ). step c Plain c ≡ None) (sym (eqb-true quote 34 e)) refl
  | inr e ↦ subst (λ (c : ℕ). step c Plain c ≡ None) (sym (eqb-true quote 39 e)) refl
]

-- what is left of a string behind bytes that lead to a state
abbrev Left : ℕ → State → List ℕ → Type 0
Left quote state rest = (left : List ℕ) × (runs quote left state ≡ Some Plain) × (rest ≡ left ++ quote ∷ [])

string_left : (quote : ℕ) → is_quote quote ≡ true → (front : List ℕ) (begun state : State) → runs quote front begun ≡ Some state
    → (inside rest : List ℕ) → runs quote inside begun ≡ Some Plain → front ++ rest ≡ inside ++ quote ∷ [] → Left quote state rest
string_left quote q [] begun state h inside rest i e =
    let same : begun ≡ state = cc in
    (inside, subst (λ (s : State). runs quote inside s ≡ Some Plain) same i, e)
string_left quote q (b ∷ front) begun state h [] rest i e =
    let is_quoted : b ≡ quote = cc in
    let is_plain : begun ≡ Plain = cc in
    let stuck : step quote begun b ≡ None = ap₂ (λ (s : State) (c : ℕ). step quote s c) is_plain is_quoted ∙ quote_stops quote q in
    let none : Some state ≡ None = sym h ∙ ap (λ (o : Option State). onward o (λ next. runs quote front next)) stuck in
    cc
string_left quote q (b ∷ front) begun state h (a ∷ inside) rest i e =
    let heads : a ≡ b = cc in
    let tails : front ++ rest ≡ inside ++ quote ∷ [] = cc in
    by (step quote begun b) h (subst (λ (c : ℕ). runs quote (c ∷ inside) begun ≡ Some Plain) heads i) (λ next k l. string_left quote q front next state k inside rest l tails)
  where
    by : (o : Option State) → onward o (λ next. runs quote front next) ≡ Some state → onward o (λ next. runs quote inside next) ≡ Some Plain
        → ((next : State) → runs quote front next ≡ Some state → runs quote inside next ≡ Some Plain → Left quote state rest) → Left quote state rest
    by None k l on = cc
    by (Some next) k l on = on next k l

left_of_string : (quote : ℕ) (front rest : List ℕ) (state : State) → is_quote quote ≡ true → runs quote front Plain ≡ Some state → IsString (quote ∷ front ++ rest) → Left quote state rest
left_of_string quote front rest state q h is =
    let heads : is.quote ≡ quote = cc in
    let tails : front ++ rest ≡ is.inside ++ is.quote ∷ [] = cc in
    string_left quote q front Plain state h is.inside rest (subst (λ (c : ℕ). runs c is.inside Plain ≡ Some Plain) heads (inside_runs is.quote is.inside is.is_inside))
    (subst (λ (c : ℕ). front ++ rest ≡ is.inside ++ c ∷ []) heads tails)

-- ---- the ends of a string

whole_string : (quote : ℕ) (front : List ℕ) → is_quote quote ≡ true → runs quote front Plain ≡ Some Plain → IsString (quote ∷ front ++ quote ∷ [])
whole_string quote front q h =
    record { quote = quote; inside = front; spelled = refl; is_quoted = q; is_inside = runs_inside quote front Plain h }

open_string : (quote : ℕ) (front : List ℕ) (state : State) → is_quote quote ≡ true → runs quote front Plain ≡ Some state → IsOpenString (quote ∷ front)
open_string quote front state q h = record { some = λ e. cc; begins = begins; unfinished = unfinished }
  where
    begins : BeginsString (quote ∷ front)
    begins =
        let more = completes quote state in (
          more.0 ++ quote ∷ [],
          subst (λ (bs : List ℕ). IsString (quote ∷ bs)) (append_assoc front more.0 (quote ∷ []))
              (whole_string quote (front ++ more.0) q (runs_on quote front more.0 Plain state h ∙ more.1)),
        )

    unfinished : IsString (quote ∷ front) → ⊥
    unfinished is =
        let left = left_of_string quote front [] state q h (subst (λ (bs : List ℕ). IsString (quote ∷ bs)) (sym (append-nil front)) is) in
        omega (arith, ap length left.2, length-append left.0 (quote ∷ []))

string_breaks : (quote b : ℕ) (front : List ℕ) (state : State) → is_quote quote ≡ true → runs quote front Plain ≡ Some state → step quote state b ≡ None
    → (state ≡ Plain → b ≡ quote → ⊥) → BeginsString (quote ∷ front ++ b ∷ []) → ⊥
string_breaks quote b front state q h none other (more, is) =
    let left = left_of_string quote front (b ∷ more) state q h (subst (λ (bs : List ℕ). IsString (quote ∷ bs)) (append_assoc front (b ∷ []) more) is) in
    by left.0 left.1 left.2
  where
    by : (left : List ℕ) → runs quote left state ≡ Some Plain → b ∷ more ≡ left ++ quote ∷ [] → ⊥
    by [] i e = other (cc) (cc)
    by (a ∷ left) i e =
        let heads : a ≡ b = cc in
        let stuck : Some Plain ≡ None = sym i ∙ ap (λ (c : ℕ). onward (step quote state c) (λ next. runs quote left next)) heads ∙ ap (λ (o : Option State). onward o (λ next. runs quote left next)) none in
        cc

-- ---- in a text that begins with a quote

without_quote : (q : ℕ) (t : List ℕ) → take (length (q ∷ t) - 1) t ≡ t
without_quote q t = take_rest (q ∷ t) 1

taken_behind : (q i : ℕ) (t : List ℕ) → take (i + 1) (q ∷ t) ≡ q ∷ take i t
taken_behind q i t = ap (λ (n : ℕ). take n (q ∷ t)) (add-one i)

pub string_goes_on : (text : List ℕ) (i : ℕ) (state next : State) → i < length (take (length text - 1) (drop 1 text)) → runs (get_or text 0 0) (take i (drop 1 text)) Plain ≡ Some state
    → step (get_or text 0 0) state (get_or (take (length text - 1) (drop 1 text)) i 0) ≡ Some next → runs (get_or text 0 0) (take (i + 1) (drop 1 text)) Plain ≡ Some next
string_goes_on [] i state next less reads on = absurd (omega arith)
string_goes_on (q ∷ t) i state next less reads on =
    let all = without_quote q t in
    let within : i < length t = subst (λ (s : List ℕ). i < length s) all less in
    let goes : step q state (get_or t i 0) ≡ Some next = subst (λ (s : List ℕ). step q state (get_or s i 0) ≡ Some next) all on in
    ap (λ (s : List ℕ). runs q s Plain) (take_more t i 0 within) ∙ runs_on q (take i t) (get_or t i 0 ∷ []) Plain state reads ∙ step_on q (get_or t i 0) [] state next goes

pub string_ends_at : (text : List ℕ) (i : ℕ) → DoesBegin is_quote text → i < length (take (length text - 1) (drop 1 text)) → runs (get_or text 0 0) (take i (drop 1 text)) Plain ≡ Some Plain
    → get_or (take (length text - 1) (drop 1 text)) i 0 ≡ get_or text 0 0 → EndsString text (Whole (i + 2))
string_ends_at [] i quoted less reads at = absurd quoted
string_ends_at (q ∷ t) i quoted less reads at =
    let all = without_quote q t in
    let within : i < length t = subst (λ (s : List ℕ). i < length s) all less in
    let ends : get_or t i 0 ≡ q = subst (λ (s : List ℕ). get_or s i 0 ≡ q) all at in
    let two : i + 2 ≡ i + 1 + 1 = omega arith in
    let taken : take (i + 2) (q ∷ t) ≡ q ∷ take i t ++ q ∷ [] =
    ap (λ (n : ℕ). take n (q ∷ t)) two ∙ taken_behind q (i + 1) t ∙ ap (λ (s : List ℕ). q ∷ s) (take_more t i 0 within ∙ ap (λ (b : ℕ). take i t ++ b ∷ []) ends) in
    (omega arith, subst IsString (sym taken) (whole_string q (take i t) quoted reads))

pub string_breaks_at : (text : List ℕ) (i : ℕ) (state : State) → DoesBegin is_quote text → i < length (take (length text - 1) (drop 1 text)) → runs (get_or text 0 0) (take i (drop 1 text)) Plain ≡ Some state
    → step (get_or text 0 0) state (get_or (take (length text - 1) (drop 1 text)) i 0) ≡ None
    → (state ≡ Plain → get_or (take (length text - 1) (drop 1 text)) i 0 ≡ get_or text 0 0 → ⊥) → EndsString text (Broken (i + 1))
string_breaks_at [] i state quoted less reads none other = absurd quoted
string_breaks_at (q ∷ t) i state quoted less reads none other =
    let all = without_quote q t in
    let within : i < length t = subst (λ (s : List ℕ). i < length s) all less in
    let stops : step q state (get_or t i 0) ≡ None = subst (λ (s : List ℕ). step q state (get_or s i 0) ≡ None) all none in
    let apart : state ≡ Plain → get_or t i 0 ≡ q → ⊥ = subst (λ (s : List ℕ). state ≡ Plain → get_or s i 0 ≡ q → ⊥) all other in
    let more : take (i + 1 + 1) (q ∷ t) ≡ q ∷ take i t ++ get_or t i 0 ∷ [] = taken_behind q (i + 1) t ∙ ap (λ (s : List ℕ). q ∷ s) (take_more t i 0 within) in (
      omega arith,
      omega arith,
      subst IsOpenString (sym (taken_behind q i t)) (open_string q (take i t) state quoted reads),
      λ _ begins. string_breaks q (get_or t i 0) (take i t) state quoted reads stops apart (subst BeginsString more begins),
    )

pub string_runs_out : (text : List ℕ) (i : ℕ) (state : State) → DoesBegin is_quote text → length (take (length text - 1) (drop 1 text)) ≤ i → runs (get_or text 0 0) (take i (drop 1 text)) Plain ≡ Some state
    → EndsString text (Broken (length text))
string_runs_out [] i state quoted all reads = absurd quoted
string_runs_out (q ∷ t) i state quoted all reads =
    let through : length t ≤ i = subst (λ (s : List ℕ). length s ≤ i) (without_quote q t) all in
    let whole : runs q t Plain ≡ Some state = subst (λ (s : List ℕ). runs q s Plain ≡ Some state) (take_all i t through) reads in (
      omega arith,
      omega arith,
      subst IsOpenString (sym (take_all (length (q ∷ t)) (q ∷ t) (omega arith))) (open_string q t state quoted whole),
      λ less. absurd (omega arith),
    )

-- ---- why a text begins with no string

pub broken_stuck : (text : List ℕ) (n b : ℕ) → EndsString text (Broken n) → true ≡ nat_lt n (length text) → b ≡ get_or text n 0 → (b ≡ 10 → ⊥) → IsStuck text Char 0
broken_stuck text n b ends less at other =
    let within : n < length text = ltb-true n (length text) (sym less) in
    let split : text ≡ take n text ++ get_or text n 0 ∷ drop (n + 1) text = sym (take-append-drop n text) ∙ ap (λ (s : List ℕ). take n text ++ s) (drop_more text n 0 within) in
    let more : take n text ++ get_or text n 0 ∷ [] ≡ take (n + 1) text = sym (take_more text n 0 within) in
    broken_string (take n text) (get_or text n 0) (drop (n + 1) text) split ends.2 (ne_eqb (get_or text n 0) 10 (λ e. other (at ∙ e)))
    (λ begins. ends.3 within (subst BeginsString more begins))

pub newline_stuck : (text : List ℕ) (n b : ℕ) → EndsString text (Broken n) → true ≡ nat_lt n (length text) → b ≡ get_or text n 0 → b ≡ 10 → IsStuck text Unclosed 0
newline_stuck text n b ends less at newline =
    let within : n < length text = ltb-true n (length text) (sym less) in
    let split : text ≡ take n text ++ get_or text n 0 ∷ drop (n + 1) text = sym (take-append-drop n text) ∙ ap (λ (s : List ℕ). take n text ++ s) (drop_more text n 0 within) in
    string_at_newline (take n text) (get_or text n 0) (drop (n + 1) text) split ends.2 (eq-eqb (get_or text n 0) 10 (sym at ∙ newline))

pub end_stuck : (text : List ℕ) (n : ℕ) → EndsString text (Broken n) → false ≡ nat_lt n (length text) → IsStuck text Unclosed 0
end_stuck text n ends all = string_at_end (subst IsOpenString (take_all n text (ltb-false n (length text) (sym all))) ends.2)
