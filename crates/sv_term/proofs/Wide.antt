-- Sorts as nodes look at them: two sorts of numbers count as one.
use Rattle.std.proofs.Common.{ℕ, zero, suc, ◌<◌, true, false, ◌||◌, List, [], ◌∷◌, ◌≡◌, length, get_or, refl, sym, ap, subst, arith}
use Rattle.sv_term.specs.Sorts.{Any, Sort, NumSort, BoolSort, ArrSort, TupSort, same_sort, is_num, is_bool, is_array, is_tuple, count, sort_at, matches}
use Rattle.sv_term.specs.Banks.{wide, parts_by}
use Rattle.sv_term.specs.declared.node.SortId.{SortId}
use Rattle.sv_term.proofs.Same.{sort_is, sort_self}

pub array_wide : (s : Sort) → is_array (wide s) ≡ true → wide s ≡ s
array_wide (ArrSort s) e = refl
array_wide (NumSort r) e = cc e
array_wide BoolSort e = cc e
array_wide (TupSort ss) e = cc e

pub tuple_wide : (s : Sort) → is_tuple (wide s) ≡ true → wide s ≡ s
tuple_wide (TupSort ss) e = refl
tuple_wide (NumSort r) e = cc e
tuple_wide BoolSort e = cc e
tuple_wide (ArrSort s) e = cc e

pub number_of_wide : (s : Sort) → wide s ≡ NumSort Any → is_num s ≡ true
number_of_wide (NumSort r) e = refl
number_of_wide BoolSort e = cc e
number_of_wide (ArrSort s) e = cc e
number_of_wide (TupSort ss) e = cc e

pub wide_number : (s : Sort) → is_num s ≡ true → wide s ≡ NumSort Any
wide_number (NumSort r) e = refl
wide_number BoolSort e = cc e
wide_number (ArrSort s) e = cc e
wide_number (TupSort ss) e = cc e

pub bool_of_wide : (s : Sort) → wide s ≡ BoolSort → is_bool s ≡ true
bool_of_wide BoolSort e = refl
bool_of_wide (NumSort r) e = cc e
bool_of_wide (ArrSort s) e = cc e
bool_of_wide (TupSort ss) e = cc e

pub wide_bool : (s : Sort) → is_bool s ≡ true → wide s ≡ BoolSort
wide_bool BoolSort e = refl
wide_bool (NumSort r) e = cc e
wide_bool (ArrSort s) e = cc e
wide_bool (TupSort ss) e = cc e

pub same_wide : (s t : Sort) → matches s t ≡ true → wide s ≡ wide t
same_wide (NumSort r) (NumSort q) e = refl
same_wide BoolSort t e = ap wide (sort_is BoolSort t e)
same_wide (ArrSort s) t e = ap wide (sort_is (ArrSort s) t e)
same_wide (TupSort ss) t e = ap wide (sort_is (TupSort ss) t e)
same_wide (NumSort r) BoolSort e = cc e
same_wide (NumSort r) (ArrSort t) e = cc e
same_wide (NumSort r) (TupSort ts) e = cc e

-- two sorts that look alike are one, where the first is not of numbers
alike : (s t : Sort) → wide s ≡ wide t → is_num s ≡ false → s ≡ t
alike BoolSort BoolSort e n = refl
alike (ArrSort s) (ArrSort t) e n = e
alike (TupSort ss) (TupSort ts) e n = e
alike (NumSort r) t e n = cc n
alike _ _ e n = cc e

-- two sorts that look alike are one, or both of numbers
pub wide_same : (s t : Sort) → wide s ≡ wide t → matches s t ≡ true
wide_same (NumSort r) t e = ap (λ b. b || same_sort (NumSort r) t) (number_of_wide t (sym e))
wide_same BoolSort t e = subst (λ z. matches BoolSort z ≡ true) (alike BoolSort t e refl) refl
wide_same (ArrSort s) t e = subst (λ z. same_sort (ArrSort s) z ≡ true) (alike (ArrSort s) t e refl) (sort_self (ArrSort s))
wide_same (TupSort ss) t e = subst (λ z. same_sort (TupSort ss) z ≡ true) (alike (TupSort ss) t e refl) (sort_self (TupSort ss))

-- ---- parts of a tuple's sort

pub count_parts : (f : SortId → Sort) (ks : List SortId) → count (parts_by f ks) ≡ length ks
count_parts f [] = refl
count_parts f (k ∷ ks) = ap suc (count_parts f ks)

pub part_at : (f : SortId → Sort) (ks : List SortId) (k : ℕ) (d : SortId) → k < length ks → sort_at k (parts_by f ks) ≡ f (get_or ks k d)
part_at f [] k d h = absurd (omega arith)
part_at f (j ∷ ks) zero d h = refl
part_at f (j ∷ ks) (suc k) d h = part_at f ks k d (omega (arith, h))
