-- A numeral of at most 18 digits is what `decimal` writes of its value, and each such number is written so.
use Rattle.std.proofs.Common.{◌≡◌, ℕ, ◌<◌, ◌≤◌, ◌^◌, List, length, get_or, Result, Ok, sym, ap, arith, inl, inr}
use Rattle.std.specs.Fmt.{decimal}
use Rattle.std.specs.Str.{IsUtf8}
use Rattle.std.specs.Str.Parse.{digits_value, ParsesUnsigned}
use Rattle.std.proofs.lemmas.Str.{IsUtf8-from_ascii}
use Rattle.std.proofs.lemmas.Str.Parse.{IsNumeralModel, numerals_by_value, tells_by_index, digits_value_short, parse_gives}
use Rattle.std.proofs.lemmas.Fmt.{decimal-digits_value, digits_decimal, length-decimal-le, decimal_nonempty, first_decimal, decimal_digit, IsAscii-decimal}
use Rattle.std.proofs.lemmas.Bool.{cases_lt}
use Rattle.sv_first_form.specs.Numeral.{HasDigitsAlone, IsNumeral}

own : IsNumeralModel HasDigitsAlone (digits_value 10)
own = numerals_by_value HasDigitsAlone tells_by_index

-- what `parse` reads in a numeral
pub record IsRead {E : Type 0} (text : List ℕ) (r : Result ℕ E) (n : ℕ) : Type 0 where
  pub ok : r ≡ Ok n
  pub written : text ≡ decimal n
  pub small : n < 10 ^ 18

pub numeral_is_read : {E : Type 0} (text : List ℕ) (r : Result ℕ E) → IsNumeral text → length text ≤ 18 → ParsesUnsigned 64 10 text r → (n : ℕ) × IsRead text r n
numeral_is_read text r numeral short parsed =
    let small : digits_value 10 text < 10 ^ 18 = digits_value_short own text 18 numeral.digits short in
    let fits : digits_value 10 text < 2 ^ 64 = omega arith in
    let some : 0 < length text = omega (arith, numeral.size) in (
      digits_value 10 text,
      record {
        ok = parse_gives own 64 text r parsed numeral.digits some fits;
        written = sym (decimal-digits_value own text numeral.digits some numeral.first fits);
        small = small;
      },
    )

first_at_zero : (n : ℕ) → n < 2 ^ 64 → get_or (decimal n) 0 0 ≡ 48 → length (decimal n) ≡ 1
first_at_zero n fits e =
    elim (cases_lt 0 n) [
      | inl above ↦ absurd (omega (arith, first_decimal n above fits))
      | inr zero ↦ ap length (decimal_digit n (omega arith))
    ]

pub decimal_is_numeral : (n : ℕ) → n < 10 ^ 18 → IsNumeral (decimal n) × (length (decimal n) ≤ 18) × IsUtf8 (decimal n)
decimal_is_numeral n small =
    let fits : n < 2 ^ 64 = omega arith in (
      record {
        digits = digits_decimal own n fits;
        size = omega (arith, decimal_nonempty n fits);
        first = first_at_zero n fits;
      },
      length-decimal-le 18 n (omega arith) small fits,
      IsUtf8-from_ascii (decimal n) (IsAscii-decimal n fits),
    )
