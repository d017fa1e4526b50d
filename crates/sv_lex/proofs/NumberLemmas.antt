-- The longest number that a text begins with.
use Rattle.std.proofs.Common.{◌≡◌, ◌==◌, ℕ, zero, suc, ◌+◌, ◌-◌, ◌<◌, ◌≤◌, ◌⊎◌, Bool, true, false, cond, ◌&&◌, ◌||◌, List, [], ◌∷◌, ◌++◌, length, get_or, take, drop, nat_lt, refl, sym, ap, ◌∙◌, subst, arith, inl, inr, length-append, length-drop, append_assoc, add-one, codes, min}
use Rattle.std.specs.List.{AllPass}
use Rattle.std.proofs.lemmas.Bool.{true≢false, both_ways, and_left, and_right, and_parts, or_left, or_right, cond-true, eq-eqb, ne_eqb, cases_eq, cases_lt}
use Rattle.std.proofs.lemmas.List.{nil_from_length, length-take, length-take-le, get_or-take, get_or_at, take_rest, take-take, take-append-drop}
use Rattle.std.proofs.lemmas.List.Elements.{All-nil, All-cons, All-get_or, All-take}
use Rattle.sv_lex.specs.Bytes.{is_digit, continues_word, DoesNotBegin, DoesBegin}
use Rattle.sv_lex.specs.Forms.{is_group, is_grouped, IsWhole, IsExponent, IsDecimal, IsHexadecimal, IsNumeral}
use Rattle.sv_lex.specs.Faults.{IsStuck, number_goes_on}
use Rattle.sv_lex.specs.declared.fault.Flaw.TheVariants.{Char}
use Rattle.sv_lex.specs.Longest.{IsLongestSuch}
use Rattle.sv_lex.proofs.LongestLemmas.{taken_past, taken_twice, rest_dropped, longest_by_lengths, run_longest}

-- what the bytes before the index say of the fronts of the text
pub record ReadsGroup (digit : ℕ → Bool) (text : List ℕ) (i len : ℕ) : Type 0 where
  pub within : len ≤ i
  pub form : 0 < len → is_grouped digit (take len text) ≡ true
  pub longest : (k : ℕ) → k ≤ i → is_grouped digit (take k text) ≡ true → k ≤ len
  pub goes_on : (rest : List ℕ) → is_grouped digit (take i text ++ rest) ≡ is_group digit (nat_lt 0 len && (len == i)) rest

-- a byte that ends a group: no digit, and a `_` only where no digit stands before it
ends_group : (digit : ℕ → Bool) (after : Bool) (b : ℕ) (rest : List ℕ) → digit b ≡ false → ((b ≡ 95 → ⊥) ⊎ (after ≡ false)) → is_group digit after (b ∷ rest) ≡ false
ends_group digit after b rest h (inl other) = rw h (and_left _ _ (ne_eqb b 95 other))
ends_group digit after b rest h (inr none) = rw h (and_right _ _ (and_left _ _ none))

pub group_stops : (digit : ℕ → Bool) (text : List ℕ) (i len : ℕ) → ReadsGroup digit text i len → i < length text → digit (get_or text i 0) ≡ false
    → ((get_or text i 0 ≡ 95 → ⊥) ⊎ ((nat_lt 0 len && (len == i)) ≡ false)) → IsLongestSuch (λ front. is_grouped digit front ≡ true) text len
group_stops digit text i len was less no_digit stop =
    longest_by_lengths (λ front. is_grouped digit front ≡ true) text len (omega (arith, was.within)) was.form longest
  where
    longest : (k : ℕ) → k ≤ length text → is_grouped digit (take k text) ≡ true → k ≤ len
    longest k fits is = elim (cases_lt i k) [
      | inl more ↦
          absurd (both_ways (is_grouped digit (take k text))
          (ap (is_grouped digit) (taken_past text i k more fits) ∙ was.goes_on (get_or text i 0 ∷ drop (i + 1) (take k text)) ∙ ends_group digit _ (get_or text i 0) (drop (i + 1) (take k text)) no_digit stop) is)
      | inr few ↦ was.longest k few is
    ]

pub group_ends : (digit : ℕ → Bool) (text : List ℕ) (i len : ℕ) → ReadsGroup digit text i len → i ≤ length text → length text ≤ i
    → IsLongestSuch (λ front. is_grouped digit front ≡ true) text len
group_ends digit text i len was within all =
    longest_by_lengths (λ front. is_grouped digit front ≡ true) text len (omega (arith, was.within)) was.form (λ k fits is. was.longest k (omega arith) is)

-- ---- exponents

-- `e` and as many digits as follow, up to two
pub exponent_of_digits : (text digits : List ℕ) (n k : ℕ) → text ≡ codes "e" ++ digits → n ≤ length digits → AllPass is_digit (take n digits)
    → (n < length digits → is_digit (get_or digits n 0) ≡ false) → k ≡ min n 2 → 0 < k → IsLongestSuch IsExponent text (k + 1)
exponent_of_digits text digits n k e within run stop few some =
    record {
      within = omega (arith, ap length e);
      form = λ _. inr (take k digits, taken, all, omega (arith, length-take-le k digits fits), omega (arith, length-take-le k digits fits));
      longest = longest;
    }
  where
    fits : k ≤ length digits
    fits = omega arith

    taken : take (k + 1) text ≡ 101 ∷ take k digits
    taken = ap (λ (s : List ℕ). take (k + 1) s) e ∙ ap (λ (m : ℕ). take m (101 ∷ digits)) (add-one k)

    all : AllPass is_digit (take k digits)
    all = subst (AllPass is_digit) (take-take k n digits (omega arith)) (All-take (λ b. is_digit b ≡ true) k (take n digits) run)

    longest : (front rest : List ℕ) → text ≡ front ++ rest → IsExponent front → length front ≤ k + 1
    longest front rest f (inl none) = omega (arith, ap length none)
    longest front rest f (inr (more, begins, passes, _, short)) =
        let same : 101 ∷ digits ≡ 101 ∷ (more ++ rest) = sym e ∙ f ∙ ap (λ (s : List ℕ). s ++ rest) begins in
        let tails : digits ≡ more ++ rest = ap (λ (s : List ℕ). drop 1 s) same in
        omega (arith, ap length begins, run_longest is_digit digits n stop more rest tails passes)

-- ---- decimals

-- the bytes of a whole part
abbrev in_whole : ℕ → Bool
in_whole b = is_digit b || (b == 95)

group_passes : (after : Bool) (bs : List ℕ) → is_group is_digit after bs ≡ true → AllPass in_whole bs
group_passes after [] h = All-nil (λ b. in_whole b ≡ true)
group_passes after (b ∷ bs) h = by (is_digit b) refl h (λ later. group_passes later bs)
  where
    by : (d : Bool) → is_digit b ≡ d → cond d (is_group is_digit true bs) ((b == 95) && (after && is_group is_digit false bs)) ≡ true
        → ((later : Bool) → is_group is_digit later bs ≡ true → AllPass in_whole bs) → AllPass in_whole (b ∷ bs)
    by true e h passes = All-cons (λ b. in_whole b ≡ true) b bs (or_left (is_digit b) (b == 95) e) (passes true h)
    by false e h passes =
        let parts = and_parts (b == 95) (after && is_group is_digit false bs) h in
        All-cons (λ b. in_whole b ≡ true) b bs (or_right (is_digit b) (b == 95) parts.0) (passes false (and_parts after (is_group is_digit false bs) parts.1).1)

whole_passes : (bs : List ℕ) → IsWhole bs → AllPass in_whole bs
whole_passes bs (inl e) = subst (AllPass in_whole) (sym e) (All-cons (λ b. in_whole b ≡ true) 48 [] refl (All-nil (λ b. in_whole b ≡ true)))
whole_passes bs (inr h) = group_passes false bs h.0

-- a digit alone is a whole part
digit_alone : (b : ℕ) → is_digit b ≡ true → IsWhole (b ∷ [])
digit_alone b h = elim (cases_eq b 48) [
  | inl e ↦ inl (ap (λ (x : ℕ). x ∷ []) e)
  | inr other ↦ inr (cond-true (is_digit b) true ((b == 95) && (false && false)) h, ne_eqb b 48 other)
]

zero_whole : (t : List ℕ) → IsLongestSuch IsWhole (48 ∷ t) 1
zero_whole t = record { within = omega arith; form = λ _. inl refl; longest = longest }
  where
    longest : (front rest : List ℕ) → 48 ∷ t ≡ front ++ rest → IsWhole front → length front ≤ 1
    longest front rest e (inl is) = omega (arith, ap length is)
    longest [] rest e (inr h) = omega arith
    longest (b ∷ front) rest e (inr h) = let same : 48 ≡ b = cc in absurd (both_ways (b == 48) h.1 (eq-eqb b 48 (sym same)))

digits_whole : (b : ℕ) (t : List ℕ) (n : ℕ) → (b ≡ 48 → ⊥) → IsLongestSuch (λ front. is_grouped is_digit front ≡ true) (b ∷ t) n → IsLongestSuch IsWhole (b ∷ t) n
digits_whole b t n other group = record { within = group.within; form = λ some. inr (group.form some, begins n some); longest = longest }
  where
    begins : (n : ℕ) → 0 < n → DoesNotBegin (λ c. c == 48) (take n (b ∷ t))
    begins zero some = tt
    begins (suc n) some = ne_eqb b 48 other

    longest : (front rest : List ℕ) → b ∷ t ≡ front ++ rest → IsWhole front → length front ≤ n
    longest front rest e (inl is) = let same : b ∷ t ≡ 48 ∷ rest = e ∙ ap (λ (x : List ℕ). x ++ rest) is in absurd (other (cc))
    longest front rest e (inr h) = group.longest front rest e h.0

decimal_parts : (b : ℕ) (t : List ℕ) (whole exponent : ℕ) → is_digit b ≡ true → IsLongestSuch IsWhole (b ∷ t) whole
    → IsLongestSuch IsExponent (drop whole (b ∷ t)) exponent → IsLongestSuch IsDecimal (b ∷ t) (whole + exponent)
decimal_parts b t whole exponent digit w x = record { within = within; form = form; longest = longest }
  where
    text : List ℕ
    text = b ∷ t

    some : 0 < whole
    some = omega (arith, w.longest (b ∷ []) t refl (digit_alone b digit))

    within : whole + exponent ≤ length (b ∷ t)
    within = omega (arith, w.within, x.within, length-drop whole (b ∷ t))

    is_exponent : IsExponent (take exponent (drop whole (b ∷ t)))
    is_exponent = elim (cases_lt 0 exponent) [
      | inl more ↦ x.form more
      | inr none ↦ inl (nil_from_length (take exponent (drop whole (b ∷ t))) (omega (arith, length-take exponent (drop whole (b ∷ t)))))
    ]

    form : 0 < whole + exponent → IsDecimal (take (whole + exponent) (b ∷ t))
    form _ = record {
      whole = take whole (b ∷ t);
      exponent = take exponent (drop whole (b ∷ t));
      spelled = taken_twice whole exponent (b ∷ t);
      is_whole = w.form some;
      is_exponent = is_exponent;
    }

    longest : (front rest : List ℕ) → b ∷ t ≡ front ++ rest → IsDecimal front → length front ≤ whole + exponent
    longest front rest e d = by d.is_exponent
      where
        spelled : b ∷ t ≡ d.whole ++ (d.exponent ++ rest)
        spelled = e ∙ ap (λ (s : List ℕ). s ++ rest) d.spelled ∙ append_assoc d.whole d.exponent rest

        short : length d.whole ≤ whole
        short = w.longest d.whole (d.exponent ++ rest) spelled d.is_whole

        by : IsExponent d.exponent → length front ≤ whole + exponent
        by (inl none) = omega (arith, ap length d.spelled, length-append d.whole d.exponent, ap length none, short)
        by (inr (digits, begins, _, _, _)) = elim (cases_lt (length d.whole) whole) [
          | inl shorter ↦
              let at : get_or (b ∷ t) (length d.whole) 0 ≡ 101 = ap (λ (s : List ℕ). get_or s (length d.whole) 0) (spelled ∙ ap (λ (s : List ℕ). d.whole ++ (s ++ rest)) begins) ∙ get_or_at d.whole 101 (digits ++ rest) 0 (length d.whole) refl in
              let passes = All-get_or (λ c. in_whole c ≡ true) (take whole (b ∷ t)) (length d.whole) 0 (omega (arith, length-take-le whole (b ∷ t) w.within)) (whole_passes (take whole (b ∷ t)) (w.form some)) in
              absurd (true≢false (sym passes ∙ ap in_whole (get_or-take whole (b ∷ t) (length d.whole) 0 shorter ∙ at)))
          | inr all ↦
              let same : whole ≡ length d.whole = omega (arith, short) in
              let left : drop whole (b ∷ t) ≡ d.exponent ++ rest = ap (λ (n : ℕ). drop n (b ∷ t)) same ∙ rest_dropped (b ∷ t) d.whole (d.exponent ++ rest) spelled in
              omega (arith, x.longest d.exponent rest left d.is_exponent, ap length d.spelled, length-append d.whole d.exponent)
        ]

-- the same for a text, by its first byte
pub whole_of_zero : (text : List ℕ) (n : ℕ) → DoesBegin is_digit text → get_or text 0 0 ≡ 48 → n ≡ 1 → IsLongestSuch IsWhole text n
whole_of_zero [] n digit first one = absurd digit
whole_of_zero (b ∷ t) n digit first one =
    subst (λ (k : ℕ). IsLongestSuch IsWhole (b ∷ t) k) (sym one) (subst (λ (c : ℕ). IsLongestSuch IsWhole (c ∷ t) 1) (sym first) (zero_whole t))

pub whole_of_digits : (text : List ℕ) (n k : ℕ) → DoesBegin is_digit text → (get_or text 0 0 ≡ 48 → ⊥) → n ≡ k → IsLongestSuch (λ front. is_grouped is_digit front ≡ true) text k
    → IsLongestSuch IsWhole text n
whole_of_digits [] n k digit other same group = absurd digit
whole_of_digits (b ∷ t) n k digit other same group = subst (IsLongestSuch IsWhole (b ∷ t)) (sym same) (digits_whole b t k other group)

pub decimal_of_parts : (text : List ℕ) (whole exponent : ℕ) → DoesBegin is_digit text → IsLongestSuch IsWhole text whole
    → IsLongestSuch IsExponent (take (length text - whole) (drop whole text)) exponent → IsLongestSuch IsDecimal text (whole + exponent)
decimal_of_parts [] whole exponent digit w x = absurd digit
decimal_of_parts (b ∷ t) whole exponent digit w x =
    decimal_parts b t whole exponent digit w (subst (λ (s : List ℕ). IsLongestSuch IsExponent s exponent) (take_rest (b ∷ t) whole) x)

-- ---- both forms

pub some_decimal : (text : List ℕ) (n : ℕ) → DoesBegin is_digit text → IsLongestSuch IsDecimal text n → 0 < n
some_decimal [] n digit longest = absurd digit
some_decimal (b ∷ t) n digit longest =
    omega (arith, longest.longest (b ∷ []) t refl (record { whole = b ∷ []; exponent = []; spelled = refl; is_whole = digit_alone b digit; is_exponent = inl refl }))

-- where no hexadecimal number begins, the longest decimal is the longest number
pub decimal_outruns : (text : List ℕ) (n k : ℕ) → k ≡ 0 → IsLongestSuch IsHexadecimal text k → IsLongestSuch IsDecimal text n
    → (front rest : List ℕ) → text ≡ front ++ rest → IsNumeral front → length front ≤ n
decimal_outruns text n k none hex decimal front rest e (inl is) = decimal.longest front rest e is
decimal_outruns text n k none hex decimal front rest e (inr is) = omega (arith, hex.longest front rest e is)

-- where one does, a decimal goes as far as its `0`
x_begins_no_exponent : (t : List ℕ) → IsLongestSuch IsExponent (120 ∷ t) 0
x_begins_no_exponent t = record { within = omega arith; form = λ some. absurd (omega arith); longest = longest }
  where
    longest : (front rest : List ℕ) → 120 ∷ t ≡ front ++ rest → IsExponent front → length front ≤ 0
    longest front rest e (inl none) = omega (arith, ap length none)
    longest front rest e (inr (digits, begins, _, _, _)) =
        let same : 120 ∷ t ≡ 101 ∷ (digits ++ rest) = e ∙ ap (λ (s : List ℕ). s ++ rest) begins in
        let heads : get_or (120 ∷ t) 0 0 ≡ 101 = ap (λ (s : List ℕ). get_or s 0 0) same in
        absurd (omega arith)

pub hexadecimal_outruns : (text : List ℕ) (n : ℕ) → 0 < n → IsLongestSuch IsHexadecimal text n → (front rest : List ℕ) → text ≡ front ++ rest → IsNumeral front → length front ≤ n
hexadecimal_outruns text n some hex front rest e (inr is) = hex.longest front rest e is
hexadecimal_outruns text n some hex front rest e (inl is) =
    let h = hex.form some in
    let tail = 120 ∷ (h.digits ++ drop n text) in
    let spelled : text ≡ 48 ∷ tail = sym (take-append-drop n text) ∙ ap (λ (s : List ℕ). s ++ drop n text) h.spelled in
    let decimal = decimal_parts 48 tail 1 0 refl (zero_whole tail) (x_begins_no_exponent (h.digits ++ drop n text)) in
    omega (arith, decimal.longest front rest (sym spelled ∙ e) is, length-take-le n text hex.within, ap length h.spelled)

pub number_stuck : (text : List ℕ) (n : ℕ) → n ≤ length text → IsNumeral (take n text) → ((front rest : List ℕ) → text ≡ front ++ rest → IsNumeral front → length front ≤ n)
    → DoesBegin continues_word (drop n text) → IsStuck text Char n
number_stuck text n within is longest begins =
    let long = length-take-le n text within in
    subst (IsStuck text Char) long
    (number_goes_on (take n text) (drop n text) (sym (take-append-drop n text)) is begins (λ front rest e numeral. omega (arith, longest front rest e numeral, long)))
