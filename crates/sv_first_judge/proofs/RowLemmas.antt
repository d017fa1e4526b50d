-- When two rows have the same form, and when a form is the negation of another.
use Rattle.std.proofs.Common.{◌≡◌, ◌≢◌, ◌<◌, ℕ, zero, suc, ℤ, pos, ◌+ℤ◌, neg_ℤ, cond, eqb, List, [], ◌∷◌, length, get_or, refl, sym, subst, ◌∙◌, ◌⊎◌, inl, inr, ⊎_elim, arith}
use Rattle.std.specs.Prelude.{All}
use Rattle.std.proofs.lemmas.Bool.{cases_eq}
use Rattle.std.proofs.lemmas.Int.{ints}
use Rattle.std.proofs.lemmas.Bool.Decides.{nat_tests}
use Rattle.sv_first_judge.proofs.ColumnLemmas.{AreDistinct, LacksVariable, coefficient_absent, coefficient_found}
use Rattle.sv_first_judge.specs.LinearForm.{IsSame, IsZero, negation}
use Rattle.sv_first_judge.specs.Rows.{coefficient_of, form_of, IsWithin, CancelsWithin, HasZeros}
use Rattle.sv_first_judge.specs.declared.row.Column.{Column}
use Rattle.sv_first_judge.specs.declared.row.Row.{Row}

-- the variable has no column, or has one at a place
HasColumn : List Column → ℕ → Type 0
HasColumn columns v = (i : ℕ) × (i < length columns) × ((d : Column) → (get_or columns i d).variable ≡ v)

column_cases : (columns : List Column) (v : ℕ) → LacksVariable columns v ⊎ HasColumn columns v
unfolding HasColumn
column_cases [] v = inl (λ k d l. absurd (omega arith))
column_cases (x ∷ xs) v =
    ⊎_elim
    (λ e. inr (0, omega arith, λ d. e))
    (λ other.
    ⊎_elim
    (λ lacks. inl (lacks_both x xs v other lacks))
    (λ has. inr (suc has.0, omega (arith, has.1), has.2))
    (column_cases xs v))
    (cases_eq x.variable v)
  where
    lacks_both : (x : Column) (xs : List Column) (v : ℕ) → x.variable ≢ v → LacksVariable xs v → LacksVariable (x ∷ xs) v
    lacks_both x xs v other lacks zero d l = other
    lacks_both x xs v other lacks (suc k) d l = lacks k d (omega arith)

-- a relation between coefficients that holds at each column of either list holds at each variable
module _ (R : ℤ → ℤ → Type 0) (at_zero : R (pos 0) (pos 0)) (xs ys : List Column) where
  related : AreDistinct xs → AreDistinct ys → All (λ c. R c.number (coefficient_of ys c.variable)) xs → All (λ c. R (coefficient_of xs c.variable) c.number) ys → (v : ℕ) → R (coefficient_of xs v) (coefficient_of ys v)
  unfolding HasColumn
  related x_apart y_apart x_holds y_holds v =
      let none : Column = record { variable = 0; number = pos 0 } in
      ⊎_elim
      (λ x_lacks.
      ⊎_elim
      (λ y_lacks.
      let P : ℤ → Type 0 = λ n. R n (coefficient_of ys v) in
      let Q : ℤ → Type 0 = λ n. R (pos 0) n in
      subst P (sym (coefficient_absent xs v x_lacks)) (subst Q (sym (coefficient_absent ys v y_lacks)) at_zero))
      (λ has.
      let c = get_or ys has.0 none in
      let P : ℤ → Type 0 = λ n. R (coefficient_of xs c.variable) n in
      let Q : ℕ → Type 0 = λ w. R (coefficient_of xs w) (coefficient_of ys w) in
      subst Q (has.2 none) (subst P (sym (coefficient_found ys has.0 none has.1 y_apart)) (y_holds has.0 none has.1)))
      (column_cases ys v))
      (λ has.
      let c = get_or xs has.0 none in
      let P : ℤ → Type 0 = λ n. R n (coefficient_of ys c.variable) in
      let Q : ℕ → Type 0 = λ w. R (coefficient_of xs w) (coefficient_of ys w) in
      subst Q (has.2 none) (subst P (sym (coefficient_found xs has.0 none has.1 x_apart)) (x_holds has.0 none has.1)))
      (column_cases xs v)

pub same_rows : (a b : Row) → a.constant ≡ b.constant → IsWithin a b → IsWithin b a → IsSame (form_of a) (form_of b)
same_rows a b e a_within b_within = record {
  constant = e;
  coefficients = related (λ x y. x ≡ y) refl a.columns b.columns a.distinct b.distinct a_within (λ k d l. sym (b_within k d l));
}

pub within_same : (a b : Row) → IsSame (form_of a) (form_of b) → IsWithin a b
within_same a b h = λ k d l.
    sym (coefficient_found a.columns k d l a.distinct) ∙ h.coefficients (get_or a.columns k d).variable

pub within_same_turned : (a b : Row) → IsSame (form_of a) (form_of b) → IsWithin b a
within_same_turned a b h = λ k d l.
    sym (coefficient_found b.columns k d l b.distinct) ∙ sym (h.coefficients (get_or b.columns k d).variable)

opposite_numbers : (x y : ℤ) → x +ℤ y ≡ pos 0 → x ≡ neg_ℤ y
opposite_numbers x y e = omega (arith, ints)

cancel_numbers : (x y : ℤ) → x ≡ neg_ℤ y → x +ℤ y ≡ pos 0
cancel_numbers x y e = omega (arith, ints)

turned : (x y : ℤ) → x +ℤ y ≡ pos 0 → y +ℤ x ≡ pos 0
turned x y e = omega (arith, ints)

pub opposite_rows : (a b : Row) → a.constant +ℤ b.constant ≡ pos 0 → CancelsWithin a b → CancelsWithin b a → IsSame (form_of a) (negation (form_of b))
opposite_rows a b e a_within b_within =
    let all = related (λ x y. x +ℤ y ≡ pos 0) refl a.columns b.columns a.distinct b.distinct a_within (λ k d l. turned (get_or b.columns k d).number (coefficient_of a.columns (get_or b.columns k d).variable) (b_within k d l)) in
    record {
      constant = opposite_numbers a.constant b.constant e;
      coefficients = λ v. opposite_numbers (coefficient_of a.columns v) (coefficient_of b.columns v) (all v);
    }

pub constants_cancel : (a b : Row) → IsSame (form_of a) (negation (form_of b)) → a.constant +ℤ b.constant ≡ pos 0
constants_cancel a b h = cancel_numbers a.constant b.constant h.constant

pub within_opposite : (a b : Row) → IsSame (form_of a) (negation (form_of b)) → CancelsWithin a b
within_opposite a b h = λ k d l.
    let c = get_or a.columns k d in
    let own = coefficient_found a.columns k d l a.distinct in
    let other = cancel_numbers (coefficient_of a.columns c.variable) (coefficient_of b.columns c.variable) (h.coefficients c.variable) in
    let P : ℤ → Type 0 = λ n. n +ℤ coefficient_of b.columns c.variable ≡ pos 0 in
    subst P own other

pub within_opposite_turned : (a b : Row) → IsSame (form_of a) (negation (form_of b)) → CancelsWithin b a
within_opposite_turned a b h = λ k d l.
    let c = get_or b.columns k d in
    let own = coefficient_found b.columns k d l b.distinct in
    let other = turned (coefficient_of a.columns c.variable) (coefficient_of b.columns c.variable) (cancel_numbers (coefficient_of a.columns c.variable) (coefficient_of b.columns c.variable) (h.coefficients c.variable)) in
    let P : ℤ → Type 0 = λ n. n +ℤ coefficient_of a.columns c.variable ≡ pos 0 in
    subst P own other

coefficient_of_zeros : (columns : List Column) (v : ℕ) → All (λ c. c.number ≡ pos 0) columns → coefficient_of columns v ≡ pos 0
coefficient_of_zeros [] v h = refl
coefficient_of_zeros (x ∷ xs) v h = zero_part v x.variable x.number _ (h 0 x (omega arith)) (coefficient_of_zeros xs v (λ k d l. h (suc k) d (omega arith)))
  where
    zero_part : (v w : ℕ) (n m : ℤ) → n ≡ pos 0 → m ≡ pos 0 → cond (eqb v w) n (pos 0) +ℤ m ≡ pos 0
    zero_part v w n m e f = grind (arith, ints, nat_tests)

pub zero_row : (row : Row) → row.constant ≡ pos 0 → HasZeros row → IsZero (form_of row)
zero_row row e h = record { constant = e; coefficients = λ v. coefficient_of_zeros row.columns v h }

pub zeros_of_zero : (row : Row) → IsZero (form_of row) → HasZeros row
zeros_of_zero row h = λ k d l. sym (coefficient_found row.columns k d l row.distinct) ∙ h.coefficients (get_or row.columns k d).variable
