-- Coefficients and weights of lists of columns.
use Rattle.std.proofs.Common.{◌≡◌, ◌≢◌, ◌==◌, ◌+◌, ◌<◌, ◌≤◌, ℕ, zero, suc, ℤ, pos, ◌+ℤ◌, neg_ℤ, cond, eqb, ltb, List, [], ◌∷◌, ◌++◌, length, get_or, set, Some, None, Result, Ok, Err, OnOk, OnErr, refl, sym, ap, subst, ◌∙◌, ⊎_elim, arith}
use Rattle.std.specs.Prelude.{AllPairs, All, position}
use Rattle.std.proofs.lemmas.List.Quantifiers.{position-Some, all_pairs_push}
use Rattle.std.proofs.lemmas.List.{get_or-set_same, get_or-set_other, length-set}
use Rattle.std.proofs.lemmas.Bool.{cases_eq}
use Rattle.std.specs.Int.RustNames.{unsigned_abs}
use Rattle.std.proofs.lemmas.Int.{ints}
use Rattle.std.proofs.lemmas.Bool.Decides.{nat_tests}
use Rattle.std.specs.List.{position_or_len}
use Rattle.std.proofs.lemmas.List.Sums.{fails_before_first}
use Rattle.sv_first_judge.specs.Rows.{coefficient_of}
use Rattle.sv_first_judge.specs.declared.row.Column.{Column}

-- what one column adds to the coefficient of a variable
abbrev pub part : ℕ → Column → ℤ
part v c = cond (eqb v c.variable) c.number (pos 0)

part_same : (v : ℕ) (c : Column) → v ≡ c.variable → part v c ≡ c.number
part_same v c e = grind (arith, nat_tests)

part_other : (v : ℕ) (c : Column) → (v ≡ c.variable → ⊥) → part v c ≡ pos 0
part_other v c e = grind (arith, nat_tests)

abbrev pub AreDistinct : List Column → Type 0
AreDistinct columns = AllPairs (λ x y. x.variable ≢ y.variable) columns

abbrev pub LacksVariable : List Column → ℕ → Type 0
LacksVariable columns v = All (λ c. c.variable ≢ v) columns

pub coefficient_of-append : (xs ys : List Column) (v : ℕ) → coefficient_of (xs ++ ys) v ≡ coefficient_of xs v +ℤ coefficient_of ys v
coefficient_of-append [] ys v = omega (arith, ints)
coefficient_of-append (x ∷ xs) ys v = omega (arith, ints, coefficient_of-append xs ys v)

pub coefficient_of-push : (xs : List Column) (c : Column) (v : ℕ) → coefficient_of (xs ++ c ∷ []) v ≡ coefficient_of xs v +ℤ part v c
coefficient_of-push xs c v = omega (arith, ints, coefficient_of-append xs (c ∷ []) v)

pub coefficient_of-set : (xs : List Column) (i : ℕ) (c d : Column) (v : ℕ) → i < length xs → coefficient_of (set xs i c) v +ℤ part v (get_or xs i d) ≡ coefficient_of xs v +ℤ part v c
coefficient_of-set [] i c d v h = absurd (omega arith)
coefficient_of-set (x ∷ xs) zero c d v h = omega (arith, ints)
coefficient_of-set (x ∷ xs) (suc i) c d v h = omega (arith, ints, coefficient_of-set xs i c d v (omega arith))

pub coefficient_absent : (xs : List Column) (v : ℕ) → LacksVariable xs v → coefficient_of xs v ≡ pos 0
coefficient_absent [] v h = refl
coefficient_absent (x ∷ xs) v h =
    let head = part_other v x (λ (e : v ≡ x.variable). h 0 x (omega arith) (sym e)) in
    omega (arith, ints, coefficient_absent xs v (λ k d l. h (suc k) d (omega arith)), head)

pub coefficient_found : (xs : List Column) (i : ℕ) (d : Column) → i < length xs → AreDistinct xs → coefficient_of xs (get_or xs i d).variable ≡ (get_or xs i d).number
coefficient_found [] i d h apart = absurd (omega arith)
coefficient_found (x ∷ xs) zero d h apart =
    let tail = coefficient_absent xs x.variable (λ k e l f. apart 0 (suc k) e (omega arith) (omega arith) (sym f)) in
    omega (arith, ints, tail, part_same x.variable x refl)
coefficient_found (x ∷ xs) (suc i) d h apart =
    let rest = coefficient_found xs i d (omega arith) (λ j k e l m. apart (suc j) (suc k) e (omega arith) (omega arith)) in
    let head = part_other (get_or xs i d).variable x (λ (f : (get_or xs i d).variable ≡ x.variable). apart 0 (suc i) d (omega arith) h (sym f)) in
    omega (arith, ints, rest, head)

pub abs_sum : (a b : ℤ) → unsigned_abs (a +ℤ b) ≤ unsigned_abs a + unsigned_abs b
abs_sum a b = omega (arith, ints)

pub abs_neg : (a : ℤ) → unsigned_abs (neg_ℤ a) ≡ unsigned_abs a
abs_neg a = omega (arith, ints)

-- the place that a search by the variable finds
module _ (v : ℕ) (columns : List Column) (d : Column) where
  pub found_at : (i : ℕ) → AreDistinct columns → position (λ c. c.variable == v) columns ≡ Some i → (i < length columns) × ((get_or columns i d).variable ≡ v) × (coefficient_of columns v ≡ (get_or columns i d).number)
  found_at i apart e =
      let h = position-Some (λ c. c.variable == v) columns i d e in
      let same : (get_or columns i d).variable ≡ v = grind (arith, nat_tests) in
      (h.0, same, ap (coefficient_of columns) (sym same) ∙ coefficient_found columns i d h.0 apart)

none_passes : (n m : ℕ) → cond (ltb n m) (Some n) None ≡ None → m ≤ n
none_passes n m e = grind (arith, nat_tests)

pub found_nowhere : (v : ℕ) (columns : List Column) → position (λ c. c.variable == v) columns ≡ None → LacksVariable columns v
found_nowhere v columns e = λ k d l f.
    let whole = none_passes (position_or_len (λ (c : Column). c.variable == v) columns) (length columns) e in
    let other = fails_before_first (λ (c : Column). c.variable == v) columns k d (omega arith) in
    grind (arith, nat_tests)

-- a column with another number in the place of a column, and a column at the end
variable_kept : (columns : List Column) (at : ℕ) (c : Column) → ((d : Column) → (get_or columns at d).variable ≡ c.variable) → at < length columns → (k : ℕ) (d : Column) → (get_or (set columns at c) k d).variable ≡ (get_or columns k d).variable
variable_kept columns at c same h k d =
    ⊎_elim
    (λ e. let f : k ≡ at = e in rw f (ap (λ (x : Column). x.variable) (get_or-set_same columns at c d h) ∙ sym (same d)))
    (λ other. ap (λ (x : Column). x.variable) (get_or-set_other columns at k c d other))
    (cases_eq k at)

pub AreDistinct-set : (columns : List Column) (at : ℕ) (c : Column) → at < length columns → ((d : Column) → (get_or columns at d).variable ≡ c.variable) → AreDistinct columns → AreDistinct (set columns at c)
AreDistinct-set columns at c h same apart = λ i j d lower upper e.
    apart i j d lower (omega (arith, length-set {A = Column})) (sym (variable_kept columns at c same h i d) ∙ e ∙ variable_kept columns at c same h j d)

pub AreDistinct-push : (columns : List Column) (c : Column) → LacksVariable columns c.variable → AreDistinct columns → AreDistinct (columns ++ c ∷ [])
AreDistinct-push columns c lacks apart = all_pairs_push (λ x y. x.variable ≢ y.variable) columns c apart lacks

-- after a push that may fail
pub AreDistinct-tried : {E : Type 0} (r : Result (Unit {0}) E) (columns new : List Column) (c : Column) → OnOk r (new ≡ columns ++ c ∷ []) → OnErr r (new ≡ columns) → LacksVariable columns c.variable → AreDistinct columns → AreDistinct new
AreDistinct-tried (Ok x) columns new c ok err lacks apart = let P : List Column → Type 0 = λ cs. AreDistinct cs in subst P (sym ok) (AreDistinct-push columns c lacks apart)
AreDistinct-tried (Err x) columns new c ok err lacks apart = let P : List Column → Type 0 = λ cs. AreDistinct cs in subst P (sym err) apart
