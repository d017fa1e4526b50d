-- Digits are worth no less with more behind them, and what a decimal number is worth is no less than each of its parts.
use Rattle.std.proofs.Common.{ℕ, ◌≡◌, ◌≤◌, ◌<◌, ◌+◌, ◌-◌, ◌*◌, ◌^◌, Bool, true, false, cond, Option, Some, None, List, [], ◌∷◌, drop, take, length, get_or, refl, sym, ap, subst, ◌∙◌, arith, zero, suc}
use Rattle.std.proofs.Math.Nat.{mul-le-mul_right, le-mul_of_pos_right, one-le-pow, one-le-mul, pow-suc}
use Rattle.std.proofs.Math.Seq.{drop-cons, drop-length}
use Rattle.std.proofs.Math.ListN.{drop_of_length-le}
use Rattle.std.proofs.lemmas.List.{take_rest, drop-drop}
use Rattle.sv_ast.specs.declared.post.Unit10.{Unit10}
use Rattle.sv_ast.specs.declared.post.Unit10Kind.{Unit10Kind}
use Rattle.sv_ast.specs.declared.post.Unit10Kind.TheVariants as kind
use Rattle.sv_literal.specs.Literals.{behind, with_digit, digit, is_gap, kind_worth, unit_worth, digits_worth, before_exponent, mantissa, exponent, decimal_worth}

digit_grows : (base n b : ℕ) (gap : Bool) → 1 ≤ base → n ≤ cond gap n (n * base + digit b)
digit_grows base n b true h = omega arith
digit_grows base n b false h =
    let one : n ≤ n * base = le-mul_of_pos_right n (omega (arith, h)) in
    omega (arith, one)

pub behind_grows : (base n : ℕ) (bs : List ℕ) → 1 ≤ base → n ≤ behind base n bs
behind_grows base n [] h = omega arith
behind_grows base n (b ∷ bs) h =
    let one : n ≤ with_digit base n b = digit_grows base n b (is_gap b) h in
    let two : with_digit base n b ≤ behind base (with_digit base n b) bs = behind_grows base (with_digit base n b) bs h in
    omega (arith, one, two)

-- digits are too many where some of them are
pub wide_digits : (base n m b : ℕ) (bs : List ℕ) → 1 ≤ base → (with_digit base n b < m → ⊥) → behind base n (b ∷ bs) < m → ⊥
wide_digits base n m b bs h wide less =
    let one : with_digit base n b ≤ behind base (with_digit base n b) bs = behind_grows base (with_digit base n b) bs h in
    wide (omega (arith, one, less))

pub wide_product : (a b m : ℕ) → 1 ≤ b → (a < m → ⊥) → a * b < m → ⊥
wide_product a b m h wide less =
    let one : a ≤ a * b = le-mul_of_pos_right a (omega (arith, h)) in
    wide (omega (arith, one, less))

pub tens_positive : (t : ℕ) → 1 ≤ 10 ^ t
tens_positive t = one-le-pow t 10 (omega arith)

kind_positive : (k : Unit10Kind) → 1 ≤ kind_worth k
kind_positive kind.Wei = omega arith
kind_positive kind.Gwei = omega arith
kind_positive kind.Ether = omega arith
kind_positive kind.Seconds = omega arith
kind_positive kind.Minutes = omega arith
kind_positive kind.Hours = omega arith
kind_positive kind.Days = omega arith
kind_positive kind.Weeks = omega arith

pub unit_positive : (u : Option Unit10) → 1 ≤ unit_worth u
unit_positive None = omega arith
unit_positive (Some u) = kind_positive u.kind

pub tens_grow : (t : ℕ) → t ≤ 10 ^ t
tens_grow zero = omega arith
tens_grow (suc t) =
    let one : t ≤ 10 ^ t = tens_grow t in
    let two : 1 ≤ 10 ^ t = tens_positive t in
    omega (arith, one, two)

-- a number is too large where its digits, its exponent or both together are
pub wide_whole : (w t u m : ℕ) → 1 ≤ u → (w < m → ⊥) → w * 10 ^ t * u < m → ⊥
wide_whole w t u m h wide = wide_product (w * 10 ^ t) u m h (wide_product w (10 ^ t) m (tens_positive t) wide)

pub wide_tens : (w t u m : ℕ) → 1 ≤ u → 1 ≤ w → (t < m → ⊥) → w * 10 ^ t * u < m → ⊥
wide_tens w t u m h k wide = wide_product (w * 10 ^ t) u m h (λ less. wide (short less))
  where
    short : w * 10 ^ t < m → t < m
    short less =
        let one : 10 ^ t ≤ w * 10 ^ t = mul_left w (10 ^ t) k in
        let two : t ≤ 10 ^ t = tens_grow t in
        omega (arith, one, two, less)
      where
        mul_left : (w n : ℕ) → 1 ≤ w → n ≤ w * n
        mul_left zero n h = omega (arith, h)
        mul_left (suc w) n h = omega arith

pub tens_step : (x l : ℕ) → (l ≡ 0 → ⊥) → x * 10 * 10 ^ (l - 1) ≡ x * 10 ^ l
tens_step x zero h = absurd (h refl)
tens_step x (suc l) h = rw less (steps (10 ^ suc l) (10 ^ l) (pow-suc 10 l))
  where
    less : suc l - 1 ≡ l
    less = omega arith

    steps : (p q : ℕ) → p ≡ q * 10 → x * 10 * q ≡ x * p
    steps p q e = rw e (grind arith)

pub tens_wide : (x l n m : ℕ) → (l ≡ 0 → ⊥) → (x * 10 < m → ⊥) → x * 10 ^ l ≡ n → n < m → ⊥
tens_wide x l n m h wide is less =
    let one : x * 10 * 10 ^ (l - 1) ≡ x * 10 ^ l = tens_step x l h in
    wide_product (x * 10) (10 ^ (l - 1)) m (tens_positive (l - 1)) wide (omega (arith, one, is, less))

pub tens_done : (x l n : ℕ) → l ≡ 0 → x * 10 ^ l ≡ n → x ≡ n
tens_done x l n h is =
    let one : x * 10 ^ l ≡ x = rw h (omega arith) in
    omega (arith, one, is)

-- at a place of a text that was read up to there
pub wide_at : (base n m i : ℕ) (text : List ℕ) → 1 ≤ base → i < length text → (with_digit base n (get_or text i 0) < m → ⊥) → behind base n (drop i text) ≡ behind base 0 text → behind base 0 text < m → ⊥
wide_at base n m i text h within wide is less =
    let one : behind base n (drop i text) ≡ behind base n (get_or text i 0 ∷ drop (suc i) text) = ap (behind base n) (drop-cons text i 0 within) in
    wide_digits base n m (get_or text i 0) (drop (suc i) text) h wide (omega (arith, one, is, less))

pub all_read : (base n i : ℕ) (text : List ℕ) → length text ≤ i → behind base n (drop i text) ≡ behind base 0 text → n ≡ behind base 0 text
all_read base n i text h is = ap (behind base n) (sym (drop_of_length-le text h)) ∙ is

-- what is behind the first byte
pub behind_first : (text : List ℕ) (at b : ℕ) (bs : List ℕ) → take (length text - at) (drop at text) ≡ b ∷ bs → drop (at + 1) text ≡ bs
behind_first text at b bs h = drop_one at text ∙ ap (drop 1) (sym (take_rest text at) ∙ h)
  where
    drop_one : (at : ℕ) (text : List ℕ) → drop (at + 1) text ≡ drop 1 (drop at text)
    drop_one at text = sym (drop-drop 1 at text)

-- a number whose digits are too many, and one whose exponent is
pub wide_mantissa : (at m : ℕ) (text : List ℕ) (u : Option Unit10) → at ≡ before_exponent text → (digits_worth 10 (take at text) < m → ⊥) → decimal_worth text u < m → ⊥
wide_mantissa at m text u is wide =
    wide_whole (digits_worth 10 (mantissa text)) (digits_worth 10 (exponent text)) (unit_worth u) m (unit_positive u) (subst (λ n. digits_worth 10 (take n text) < m → ⊥) is wide)

pub wide_exponent : (at w m : ℕ) (text : List ℕ) (u : Option Unit10) → at ≡ before_exponent text → w ≡ digits_worth 10 (take at text) → (w ≡ 0 → ⊥) → (digits_worth 10 (drop (at + 1) text) < m → ⊥) → decimal_worth text u < m → ⊥
wide_exponent at w m text u is whole some wide =
    wide_tens (digits_worth 10 (mantissa text)) (digits_worth 10 (exponent text)) (unit_worth u) m (unit_positive u) one (subst (λ n. digits_worth 10 (drop (n + 1) text) < m → ⊥) is wide)
  where
    same : w ≡ digits_worth 10 (mantissa text)
    same = whole ∙ ap (λ n. digits_worth 10 (take n text)) is

    one : 1 ≤ digits_worth 10 (mantissa text)
    one = omega (arith, same, some)
