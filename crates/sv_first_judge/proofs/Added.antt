-- What a row is after a number was added to the coefficient of a variable.
use Rattle.std.proofs.Common.{◌≡◌, ◌+◌, ◌<◌, ◌≤◌, ℕ, ℤ, ◌+ℤ◌, ◌-ℤ◌, neg_ℤ, List, [], ◌∷◌, ◌++◌, length, get_or, set, take, refl, sym, ap, ◌∙◌, arith}
use Rattle.std.specs.Int.RustNames.{unsigned_abs}
use Rattle.std.proofs.lemmas.Int.{ints}
use Rattle.std.proofs.lemmas.Bool.Decides.{nat_tests}
use Rattle.std.proofs.lemmas.List.{take_more}
use Rattle.std.proofs.lemmas.List.Sums.{sum_by-set, sum_by_push, sum_by_more_le, get_or-le-sum_by}
use Rattle.sv_first_judge.proofs.ColumnLemmas.{part, abs_neg, coefficient_of-set, coefficient_of-push}
use Rattle.sv_first_judge.specs.Rows.{coefficient_of, columns_weight, weight_of, AddsColumn}
use Rattle.sv_first_judge.specs.declared.row.Column.{Column}
use Rattle.sv_first_judge.specs.declared.row.Row.{Row}

-- the magnitude of the number of a column
abbrev size_of : Column → ℕ
size_of c = unsigned_abs c.number

pub size-le-weight : (row : Row) (at : ℕ) (d : Column) → at < length row.columns → unsigned_abs (get_or row.columns at d).number ≤ weight_of row
size-le-weight row at d h = omega (arith, get_or-le-sum_by size_of row.columns at d h)

part_sum : (v : ℕ) (a b c : Column) → a.variable ≡ b.variable → a.variable ≡ c.variable → c.number ≡ a.number +ℤ b.number → part v c ≡ part v a +ℤ part v b
part_sum v a b c e f g = grind (arith, ints, nat_tests)

part_negated : (v : ℕ) (a b : Column) → a.variable ≡ b.variable → a.number ≡ neg_ℤ b.number → part v a ≡ neg_ℤ (part v b)
part_negated v a b e f = grind (arith, ints, nat_tests)

cancelled : (n m p q r : ℤ) → n +ℤ p ≡ m +ℤ q → q ≡ p +ℤ r → n ≡ m +ℤ r
cancelled n m p q r e f = omega (arith, ints)

pub adds_set : (old new : Row) (at : ℕ) (column placed d : Column) → new.constant ≡ old.constant → new.columns ≡ set old.columns at placed → at < length old.columns → (get_or old.columns at d).variable ≡ column.variable → placed.variable ≡ column.variable → placed.number ≡ (get_or old.columns at d).number +ℤ column.number → AddsColumn old new column
adds_set old new at column placed d constant columns h same variable number =
    let was = get_or old.columns at d in
    record {
      constant = constant;
      coefficients = λ v.
          rw columns (cancelled (coefficient_of (set old.columns at placed) v) (coefficient_of old.columns v) (part v was) (part v placed) (part v column) (coefficient_of-set old.columns at placed d v h) (part_sum v was column placed same (same ∙ sym variable) number));
      weight =
          let after : unsigned_abs new.constant ≡ unsigned_abs old.constant = ap unsigned_abs constant in
          let moved : columns_weight new.columns ≡ columns_weight (set old.columns at placed) = ap columns_weight columns in
          let grown : unsigned_abs placed.number ≤ unsigned_abs was.number + unsigned_abs column.number = omega (arith, ints) in
          omega (arith, sum_by-set size_of old.columns at placed d h);
    }

pub adds_push : (old new : Row) (column : Column) → new.constant ≡ old.constant → new.columns ≡ old.columns ++ column ∷ [] → AddsColumn old new column
adds_push old new column constant columns = record {
  constant = constant;
  coefficients = λ v. rw columns (coefficient_of-push old.columns column v);
  weight =
      let after : unsigned_abs new.constant ≡ unsigned_abs old.constant = ap unsigned_abs constant in
      let moved : columns_weight new.columns ≡ columns_weight (old.columns ++ column ∷ []) = ap columns_weight columns in
      omega (arith, sum_by_push size_of old.columns column);
}

-- a row after columns were added, and after they were subtracted
pub record IsAdded (old new : Row) (columns : List Column) : Type 0 where
  pub constant : new.constant ≡ old.constant
  pub coefficients : (v : ℕ) → coefficient_of new.columns v ≡ coefficient_of old.columns v +ℤ coefficient_of columns v
  pub weight : weight_of new ≤ weight_of old + columns_weight columns

pub record IsSubtracted (old new : Row) (columns : List Column) : Type 0 where
  pub constant : new.constant ≡ old.constant
  pub coefficients : (v : ℕ) → coefficient_of new.columns v ≡ coefficient_of old.columns v -ℤ coefficient_of columns v
  pub weight : weight_of new ≤ weight_of old + columns_weight columns

pub added_none : (row : Row) → IsAdded row row []
added_none row = record { constant = refl; coefficients = λ v. omega (arith, ints); weight = omega arith }

pub subtracted_none : (row : Row) → IsSubtracted row row []
subtracted_none row = record { constant = refl; coefficients = λ v. omega (arith, ints); weight = omega arith }

pub added_more : (old row new : Row) (columns : List Column) (i : ℕ) (d : Column) → i < length columns → IsAdded old row (take i columns) → AddsColumn row new (get_or columns i d) → IsAdded old new (take (i + 1) columns)
added_more old row new columns i d h so_far one =
    rw (take_more columns i d h) (record {
      constant = one.constant ∙ so_far.constant;
      coefficients = λ v. omega (arith, ints, one.coefficients v, so_far.coefficients v, coefficient_of-push (take i columns) (get_or columns i d) v);
      weight = omega (arith, one.weight, so_far.weight, sum_by_push size_of (take i columns) (get_or columns i d));
    })

pub subtracted_more : (old row new : Row) (columns : List Column) (i : ℕ) (d column : Column) → i < length columns → column.variable ≡ (get_or columns i d).variable → column.number ≡ neg_ℤ (get_or columns i d).number → IsSubtracted old row (take i columns) → AddsColumn row new column → IsSubtracted old new (take (i + 1) columns)
subtracted_more old row new columns i d column h variable number so_far one =
    let last = get_or columns i d in
    rw (take_more columns i d h) (record {
      constant = one.constant ∙ so_far.constant;
      coefficients = λ v.
          omega (arith, ints, one.coefficients v, so_far.coefficients v, coefficient_of-push (take i columns) last v, part_negated v column last variable number);
      weight =
          let size : unsigned_abs column.number ≡ unsigned_abs last.number = ap unsigned_abs number ∙ abs_neg last.number in
          omega (arith, one.weight, so_far.weight, size, sum_by_push size_of (take i columns) last);
    })

pub room_for : (row other : Row) (now : ℕ) (i : ℕ) (d : Column) (limit : ℕ) → i < length other.columns → now ≤ weight_of row + columns_weight (take i other.columns) → weight_of row + weight_of other < limit → now + unsigned_abs (get_or other.columns i d).number < limit
room_for row other now i d limit h so_far room = omega (arith, sum_by_more_le size_of other.columns i d h)
