-- The rows that the code makes, and what its steps leave.
use Rattle.std.proofs.Common.{ℕ, zero, suc, ◌<◌, inr, List, [], ◌∷◌, ◌++◌, length, ◌≡◌, refl, sym, ap, ap₂, ◌∙◌, subst, arith}
use Rattle.std.proofs.lemmas.Int.{ints}
use Rattle.std.specs.List.{Contains}
use Rattle.std.specs.Prelude.{Some, slice_get, Result, IfOk, unsigned_abs}
use Rattle.std.proofs.lemmas.Option.{slice_get_within}
use lib.IntN.{ℤ, pos, negsuc, ◌*ℤ◌, ◌+ℤ◌, *ℤ_comm}
use lib.Signed.{◌≤ℤ◌, ◌<ℤ◌}
use Rattle.sv_log.specs.LogEntries.{Row}
use Rattle.sv_log.specs.LogRows.{times_parts, IsCombined, IsDivided}
use Rattle.sv_num.specs.Rounding.{IsCeiling}
use Rattle.sv_row.specs.RowParts.{monomials, IsGreatestDivisor}
use Rattle.sv_point.specs.NearestPoints.{IsRowOf}
use Rattle.sv_cert.specs.declared.log.Row.{Row as CodeRow}
use Rattle.sv_cert.specs.PlainLogs.{plain_row}
use Rattle.sv_lin.specs.CancellingRows.{row_by, CanCancel}
use Rattle.sv_lin.specs.Eliminations.{in_force, AreNormal, AreDivided, AreExceedingRows, ExceedsCombination}
use Rattle.sv_lin.specs.Quotients.{IsIndivisible, HasNoQuotient}
use Rattle.sv_lin.specs.Holding.{DividesRow, CombinesPair, Crosses, CompletesColumn}
use Rattle.sv_lin.specs.declared.made.Made.{Made}
use Rattle.sv_lin.specs.declared.made.Outcome.{Outcome}
use Rattle.sv_lin.specs.UnderWay.{entry_made, entries_of, row_made, given, force, IsUnderWay, Ends, AddsEntry, ArePairs, CombinesAll, AreSides, IsQuotient, IsSum, CanBeMade, Enters}
use Rattle.sv_lin.proofs.Entering.{contains_get, force_push}
use Rattle.sv_lin.proofs.Forces.{adds}
use Rattle.sv_lin.proofs.Dividing.{row_divided, sum_divided}
use Rattle.sv_lin.proofs.Gathering.{ends_weaker, if_ok, step_from, sum_done, complete_at, same_some}

-- ---- a quotient

pub two_is_positive : (d e : ℤ) → e ≡ d → pos 2 ≤ℤ d → pos 0 <ℤ e
two_is_positive d e f h = omega (arith, ints, f)

pub divisor_same : (d e : ℤ) (xs ys : List (ℤ × ℕ)) → e ≡ d → ys ≡ xs → IsGreatestDivisor (monomials xs) (unsigned_abs d) → IsGreatestDivisor (monomials ys) (unsigned_abs e)
divisor_same d e xs ys f g h = subst (λ z. IsGreatestDivisor (monomials ys) (unsigned_abs z)) (sym f) (subst (λ z. IsGreatestDivisor (monomials z) (unsigned_abs d)) (sym g) h)

pub quotient_is : (r : CodeRow) (d e j q p : ℤ) (xs ys zs : List (ℤ × ℕ)) → e ≡ d → j ≡ r.constant → p ≡ q → pos 2 ≤ℤ d → xs ≡ r.parts → zs ≡ ys
    → monomials xs ≡ times_parts e (monomials ys) → IsCeiling j e q → IsDivided e (plain_row r) (row_by p zs)
quotient_is r d e j q p xs ys zs ed ej ep two ex ez h k = record {
  more = subst (λ z. pos 2 ≤ℤ z) (sym ed) two;
  parts = ap monomials (sym ex) ∙ (h ∙ ap (λ z. times_parts e (monomials z)) (sym ez));
  above = subst (λ z. z ≤ℤ (e *ℤ p)) ej (subst (λ z. j ≤ℤ z) turned k.0);
  below = subst (λ z. (e *ℤ p) <ℤ (z +ℤ e)) ej (subst (λ z. z <ℤ (j +ℤ e)) turned k.1);
}
  where
    turned : q *ℤ e ≡ e *ℤ p
    turned = *ℤ_comm q e ∙ ap (λ z. e *ℤ z) (sym ep)

pub no_quotient : (rows : List Row) (p : ℕ) (r : CodeRow) (xs : List (ℤ × ℕ)) → slice_get rows p ≡ Some (plain_row r) → xs ≡ r.parts → IsIndivisible (monomials xs) → HasNoQuotient rows p
no_quotient rows p r xs g e n s h = subst (λ (z : Row). IsIndivisible z.parts) (same_some (plain_row r) s (slice_get rows p) g h) (subst (λ z. IsIndivisible (monomials z)) e n)

-- ---- a sum

opposite : (k l : ℤ) → pos 0 <ℤ k → l <ℤ pos 0 → (k *ℤ l) <ℤ pos 0
opposite (pos zero) l h i = absurd (omega (arith, ints))
opposite (pos (suc k)) (pos l) h i = absurd (omega (arith, ints))
opposite (pos (suc k)) (negsuc l) h i = omega (arith, ints)
opposite (negsuc k) l h i = absurd (omega (arith, ints))

can_cancel : (rows : List Row) (p q : ℕ) (r s : Row) → AreNormal rows → ((x : ℕ) × ArePairs rows x p (q ∷ [])) → slice_get rows p ≡ Some r → slice_get rows q ≡ Some s → CanCancel r s
can_cancel rows p q r s f u g h =
    let w = u.1.1 q (0, omega arith, refl) in
    let a = same_some u.1.0.1 r (slice_get rows p) u.1.0.2 g in
    let b = same_some w.1 s (slice_get rows q) w.2 h in record {
      column = u.0;
      first = u.1.0.0;
      second = w.0;
      of_first = subst (IsRowOf u.0 u.1.0.0) a u.1.0.3;
      of_second = subst (IsRowOf u.0 w.0) b w.3;
      opposite = opposite u.1.0.0 w.0 u.1.0.4 w.4;
      first_rises = (f r (contains_get rows p r g)).rising;
      second_rises = (f s (contains_get rows q s h)).rising;
    }

pub row_is : (r : CodeRow) (j : ℤ) (xs : List (ℤ × ℕ)) → j ≡ r.constant → xs ≡ r.parts → row_by j xs ≡ plain_row r
row_is r j xs e f = ap₂ row_by e f

pub can_cancel_by : (rows : List Row) (p q : ℕ) (r s : CodeRow) (j l : ℤ) (xs ys : List (ℤ × ℕ)) → j ≡ r.constant → xs ≡ r.parts → l ≡ s.constant → ys ≡ s.parts
    → AreNormal rows → ((x : ℕ) × ArePairs rows x p (q ∷ [])) → slice_get rows p ≡ Some (plain_row r) → slice_get rows q ≡ Some (plain_row s) → CanCancel (row_by j xs) (row_by l ys)
can_cancel_by rows p q r s j l xs ys ej ex el ey f u g h =
    subst (λ z. CanCancel z (row_by l ys)) (sym (row_is r j xs ej ex)) (subst (CanCancel (plain_row r)) (sym (row_is s l ys el ey)) (can_cancel rows p q (plain_row r) (plain_row s) f u g h))

pub exceeding : (rows : List Row) (p q : ℕ) (r s : CodeRow) (j l : ℤ) (xs ys : List (ℤ × ℕ)) → j ≡ r.constant → xs ≡ r.parts → l ≡ s.constant → ys ≡ s.parts
    → slice_get rows p ≡ Some (plain_row r) → slice_get rows q ≡ Some (plain_row s) → ExceedsCombination (row_by j xs) (row_by l ys) → AreExceedingRows rows p q
exceeding rows p q r s j l xs ys ej ex el ey g h e = record {
  first = plain_row r;
  second = plain_row s;
  is_first = g;
  is_second = h;
  exceeds = subst (λ z. ExceedsCombination z (plain_row s)) (row_is r j xs ej ex) (subst (ExceedsCombination (row_by j xs)) (row_is s l ys el ey) e);
}

pub summed : (r s : CodeRow) (j l m n i k t u : ℤ) (xs ys made parts : List (ℤ × ℕ)) → j ≡ r.constant → xs ≡ r.parts → l ≡ s.constant → ys ≡ s.parts
    → i ≡ m → k ≡ n → u ≡ t → parts ≡ made → IsCombined m (row_by j xs) n (row_by l ys) (row_by t made) → IsCombined i (plain_row r) k (plain_row s) (row_by u parts)
summed r s j l m n i k t u xs ys made parts ej ex el ey ei ek eu ep c =
    subst (λ z. IsCombined z (plain_row r) k (plain_row s) (row_by u parts)) (sym ei)
    (subst (λ z. IsCombined m (plain_row r) z (plain_row s) (row_by u parts)) (sym ek)
    (subst (λ z. IsCombined m z n (plain_row s) (row_by u parts)) (row_is r j xs ej ex)
    (subst (λ z. IsCombined m (row_by j xs) n z (row_by u parts)) (row_is s l ys el ey)
    (subst (λ z. IsCombined m (row_by j xs) n (row_by l ys) z) (sym (ap₂ row_by eu ep)) c))))

pub first_there : (rows : List Row) (p q : ℕ) → ((x : ℕ) × ArePairs rows x p (q ∷ [])) → p < length rows
first_there rows p q u = slice_get_within rows p u.1.0.1 u.1.0.2

pub second_there : (rows : List Row) (p q : ℕ) → ((x : ℕ) × ArePairs rows x p (q ∷ [])) → q < length rows
second_there rows p q u = let w = u.1.1 q (0, omega arith, refl) in slice_get_within rows q w.1 w.2

-- ---- what steps leave

pub entered : {E : Type 0} (o : Result Outcome E) (rows : List CodeRow) (limit : ℕ) (old new : List Made) (m : Made)
    → IfOk o (λ a. AddsEntry limit (entries_of old) (entries_of new) (entry_made m) a)
    → IsUnderWay (given rows) limit (entries_of old) → (Contains (force rows old) (row_made m) → ⊥) → CanBeMade (force rows old) m
    → IfOk o (λ a. Ends (given rows) limit (entries_of new) (Enters (force rows old) (row_made m) (force rows new)) a)
entered o rows limit old new m h w n c =
    if_ok o (λ a. AddsEntry limit (entries_of old) (entries_of new) (entry_made m) a) (λ a. Ends (given rows) limit (entries_of new) (Enters (force rows old) (row_made m) (force rows new)) a)
    (λ a k. ends_weaker (given rows) limit (entries_of new) (entries_of new ≡ entries_of old ++ entry_made m ∷ []) (Enters (force rows old) (row_made m) (force rows new)) a
    (λ e. inr (ap (in_force (given rows)) e ∙ force_push (given rows) (entries_of old) (entry_made m) (row_made m) (adds m.origin (row_made m))))
    (k (given rows) w (step_from (force rows old) m n c))) h

pub divided_ends : {E : Type 0} (o : Result Outcome E) (rows : List CodeRow) (limit : ℕ) (old new : List Made) (m : Made) (p : ℕ) → IsQuotient (force rows old) p m
    → IfOk o (λ a. Ends (given rows) limit (entries_of new) (Enters (force rows old) (row_made m) (force rows new)) a)
    → IfOk o (λ a. Ends (given rows) limit (entries_of new) (DividesRow p (force rows old) (force rows new)) a)
divided_ends o rows limit old new m p q h =
    if_ok o (λ a. Ends (given rows) limit (entries_of new) (Enters (force rows old) (row_made m) (force rows new)) a) (λ a. Ends (given rows) limit (entries_of new) (DividesRow p (force rows old) (force rows new)) a)
    (λ a k. ends_weaker (given rows) limit (entries_of new) (Enters (force rows old) (row_made m) (force rows new)) (DividesRow p (force rows old) (force rows new)) a (row_divided (force rows old) (force rows new) m p q) k) h

pub done_ends : {E : Type 0} (o : Result Outcome E) (rows : List CodeRow) (limit : ℕ) (old mid new : List Made) (m : Made) (p q n l : ℕ) → AreDivided (force rows old) → IsSum (force rows old) p q m
    → Enters (force rows old) (row_made m) (force rows mid) → n ≡ length (force rows old) → l ≡ length (force rows mid) → n < l
    → IfOk o (λ a. Ends (given rows) limit (entries_of new) (DividesRow n (force rows mid) (force rows new)) a)
    → IfOk o (λ a. Ends (given rows) limit (entries_of new) (CombinesPair p q (force rows old) (force rows new)) a)
done_ends o rows limit old mid new m p q n l d s e i j k h =
    if_ok o (λ a. Ends (given rows) limit (entries_of new) (DividesRow n (force rows mid) (force rows new)) a) (λ a. Ends (given rows) limit (entries_of new) (CombinesPair p q (force rows old) (force rows new)) a)
    (λ a z. ends_weaker (given rows) limit (entries_of new) (DividesRow n (force rows mid) (force rows new)) (CombinesPair p q (force rows old) (force rows new)) a
    (λ w. let b = subst (λ y. n < y) j k in (
      sum_done (force rows old) (force rows mid) (force rows new) m p q n s e i b w.0,
      sum_divided (force rows old) (force rows mid) (force rows new) (row_made m) n d e i b w,
    )) z) h

pub column_ends : {E : Type 0} (o : Result Outcome E) (rows : List CodeRow) (limit : ℕ) (old new : List Made) (x : ℕ) (us ls us' ls' : List ℕ) → us' ≡ us → ls' ≡ ls → AreSides (force rows old) x (length (force rows old)) us ls
    → IfOk o (λ a. Ends (given rows) limit (entries_of new) (Crosses us' ls' (force rows old) (force rows new)) a)
    → IfOk o (λ a. Ends (given rows) limit (entries_of new) (CompletesColumn x (force rows old) (force rows new)) a)
column_ends o rows limit old new x us ls us' ls' e f s h =
    if_ok o (λ a. Ends (given rows) limit (entries_of new) (Crosses us' ls' (force rows old) (force rows new)) a) (λ a. Ends (given rows) limit (entries_of new) (CompletesColumn x (force rows old) (force rows new)) a)
    (λ a z. ends_weaker (given rows) limit (entries_of new) (Crosses us' ls' (force rows old) (force rows new)) (CompletesColumn x (force rows old) (force rows new)) a
    (λ c. (complete_at (force rows old) (force rows new) x us ls s (subst (λ y. CombinesAll y ls (force rows old) (force rows new)) e (subst (λ y. CombinesAll us' y (force rows old) (force rows new)) f c.0)), c.1)) z) h
