-- What a node is depends on the sorts of its arguments only as far as nodes look at them.
use Rattle.std.proofs.Common.{ℕ, zero, suc, Bool, true, false, cond, ◌&&◌, nat_lt, ◌≡◌, refl, sym, ap, ap₂, ◌∙◌}
use Rattle.sv_term.specs.Sorts.{Any, Bits, Sort, NumSort, BoolSort, ArrSort, TupSort, Sorts, NoSorts, SortAnd, same_sort, same_range, is_num, is_bool, is_array, is_tuple, is_flat, is_sort, is_range, element, parts, count, sort_at, matches, all_match}
use Rattle.sv_term.specs.Terms.{Shape, LitNode, TruthNode, VarNode, AddNode, SubNode, MulNode, DivNode, ModNode, WrapNode, LeNode, EqNode, NotNode, AndNode, OrNode, IteNode, SelNode, StoNode, ConstNode, MixNode, TupNode, GetNode, SumNode, sort_node, fits_node, of_none, of_one, of_two, of_three, both_num, both_bool}
use Rattle.sv_term.specs.Banks.{wide, all_wide}

pub sort_at_wide : (k : ℕ) (ss : Sorts) → sort_at k (all_wide ss) ≡ wide (sort_at k ss)
sort_at_wide k NoSorts = refl
sort_at_wide zero (SortAnd s ss) = refl
sort_at_wide (suc k) (SortAnd s ss) = sort_at_wide k ss

pub element_wide : (s : Sort) → element (wide s) ≡ element s
element_wide (NumSort r) = refl
element_wide BoolSort = refl
element_wide (ArrSort s) = refl
element_wide (TupSort ss) = refl

pub parts_wide : (s : Sort) → parts (wide s) ≡ parts s
parts_wide (NumSort r) = refl
parts_wide BoolSort = refl
parts_wide (ArrSort s) = refl
parts_wide (TupSort ss) = refl

pub num_wide : (s : Sort) → is_num (wide s) ≡ is_num s
num_wide (NumSort r) = refl
num_wide BoolSort = refl
num_wide (ArrSort s) = refl
num_wide (TupSort ss) = refl

bool_wide : (s : Sort) → is_bool (wide s) ≡ is_bool s
bool_wide (NumSort r) = refl
bool_wide BoolSort = refl
bool_wide (ArrSort s) = refl
bool_wide (TupSort ss) = refl

array_wide : (s : Sort) → is_array (wide s) ≡ is_array s
array_wide (NumSort r) = refl
array_wide BoolSort = refl
array_wide (ArrSort s) = refl
array_wide (TupSort ss) = refl

tuple_wide : (s : Sort) → is_tuple (wide s) ≡ is_tuple s
tuple_wide (NumSort r) = refl
tuple_wide BoolSort = refl
tuple_wide (ArrSort s) = refl
tuple_wide (TupSort ss) = refl

pub flat_wide : (s : Sort) → is_flat (wide s) ≡ is_flat s
flat_wide (NumSort r) = refl
flat_wide BoolSort = refl
flat_wide (ArrSort s) = refl
flat_wide (TupSort ss) = refl

pub wide_twice : (s : Sort) → wide (wide s) ≡ wide s
wide_twice (NumSort r) = refl
wide_twice BoolSort = refl
wide_twice (ArrSort s) = refl
wide_twice (TupSort ss) = refl

matches_wide : (s t : Sort) → matches (wide s) (wide t) ≡ matches s t
matches_wide (NumSort r) (NumSort q) = refl
matches_wide (NumSort r) BoolSort = refl
matches_wide (NumSort r) (ArrSort t) = refl
matches_wide (NumSort r) (TupSort ts) = refl
matches_wide BoolSort (NumSort q) = refl
matches_wide BoolSort BoolSort = refl
matches_wide BoolSort (ArrSort t) = refl
matches_wide BoolSort (TupSort ts) = refl
matches_wide (ArrSort s) (NumSort q) = refl
matches_wide (ArrSort s) BoolSort = refl
matches_wide (ArrSort s) (ArrSort t) = refl
matches_wide (ArrSort s) (TupSort ts) = refl
matches_wide (TupSort ss) (NumSort q) = refl
matches_wide (TupSort ss) BoolSort = refl
matches_wide (TupSort ss) (ArrSort t) = refl
matches_wide (TupSort ss) (TupSort ts) = refl

part_wide : (s t : Sort) → matches s (wide t) ≡ matches s t
part_wide (NumSort r) (NumSort q) = refl
part_wide (NumSort r) BoolSort = refl
part_wide (NumSort r) (ArrSort t) = refl
part_wide (NumSort r) (TupSort ts) = refl
part_wide BoolSort (NumSort q) = refl
part_wide BoolSort BoolSort = refl
part_wide BoolSort (ArrSort t) = refl
part_wide BoolSort (TupSort ts) = refl
part_wide (ArrSort s) (NumSort q) = refl
part_wide (ArrSort s) BoolSort = refl
part_wide (ArrSort s) (ArrSort t) = refl
part_wide (ArrSort s) (TupSort ts) = refl
part_wide (TupSort ss) (NumSort q) = refl
part_wide (TupSort ss) BoolSort = refl
part_wide (TupSort ss) (ArrSort t) = refl
part_wide (TupSort ss) (TupSort ts) = refl

parts_match_wide : (ps ss : Sorts) → all_match ps (all_wide ss) ≡ all_match ps ss
parts_match_wide NoSorts NoSorts = refl
parts_match_wide NoSorts (SortAnd s ss) = refl
parts_match_wide (SortAnd p ps) NoSorts = refl
parts_match_wide (SortAnd p ps) (SortAnd s ss) = ap₂ (λ a b. a && b) (part_wide p s) (parts_match_wide ps ss)

-- arrays of one sort
mixed_wide : (a b : Sort) → (is_array (wide a) && same_sort (wide a) (wide b)) ≡ (is_array a && same_sort a b)
mixed_wide (NumSort r) b = refl
mixed_wide BoolSort b = refl
mixed_wide (TupSort ss) b = refl
mixed_wide (ArrSort s) (NumSort q) = refl
mixed_wide (ArrSort s) BoolSort = refl
mixed_wide (ArrSort s) (ArrSort t) = refl
mixed_wide (ArrSort s) (TupSort ts) = refl

and_first : (a b c : Bool) → ((a && b) && c) ≡ (a && (b && c))
and_first true b c = refl
and_first false b c = refl

chosen_number : (b : Bool) (q : Sort) → wide q ≡ NumSort Any → wide (cond b q (NumSort Any)) ≡ NumSort Any
chosen_number true q e = e
chosen_number false q e = refl

-- the sort of a choice
ite_wide : (a b : Sort) → wide (cond (same_sort (wide a) (wide b)) (wide a) (NumSort Any)) ≡ wide (cond (same_sort a b) a (NumSort Any))
ite_wide (NumSort r) (NumSort q) = chosen_number (same_sort (NumSort Any) (NumSort Any)) (NumSort Any) refl ∙ sym (chosen_number (same_range r q) (NumSort r) refl)
ite_wide (NumSort r) BoolSort = refl
ite_wide (NumSort r) (ArrSort t) = refl
ite_wide (NumSort r) (TupSort ts) = refl
ite_wide BoolSort (NumSort q) = refl
ite_wide BoolSort BoolSort = refl
ite_wide BoolSort (ArrSort t) = refl
ite_wide BoolSort (TupSort ts) = refl
ite_wide (ArrSort s) (NumSort q) = refl
ite_wide (ArrSort s) BoolSort = refl
ite_wide (ArrSort s) (ArrSort t) = refl
ite_wide (ArrSort s) (TupSort ts) = refl
ite_wide (TupSort ss) (NumSort q) = refl
ite_wide (TupSort ss) BoolSort = refl
ite_wide (TupSort ss) (ArrSort t) = refl
ite_wide (TupSort ss) (TupSort ts) = refl

-- ---- the sort of a node

sort_wide : (x : Shape) (ss : Sorts) → wide (sort_node x (all_wide ss)) ≡ wide (sort_node x ss)
sort_wide (LitNode g m) ss = refl
sort_wide (TruthNode b) ss = refl
sort_wide (VarNode n s) ss = refl
sort_wide AddNode ss = refl
sort_wide SubNode ss = refl
sort_wide MulNode ss = refl
sort_wide DivNode ss = refl
sort_wide ModNode ss = refl
sort_wide (WrapNode g n) ss = refl
sort_wide LeNode ss = refl
sort_wide EqNode ss = refl
sort_wide NotNode ss = refl
sort_wide AndNode ss = refl
sort_wide OrNode ss = refl
sort_wide IteNode ss = ap₂ (λ a b. wide (cond (same_sort a b) a (NumSort Any))) (sort_at_wide 1 ss) (sort_at_wide 2 ss) ∙ ite_wide (sort_at 1 ss) (sort_at 2 ss)
sort_wide SelNode ss = ap (λ a. wide (element a)) (sort_at_wide 0 ss) ∙ ap wide (element_wide (sort_at 0 ss))
sort_wide StoNode ss = ap wide (sort_at_wide 0 ss) ∙ wide_twice (sort_at 0 ss)
sort_wide (ConstNode s) ss = refl
sort_wide MixNode ss = ap wide (sort_at_wide 1 ss) ∙ wide_twice (sort_at 1 ss)
sort_wide (TupNode s) ss = refl
sort_wide (GetNode k) ss = ap (λ a. wide (sort_at k (parts a))) (sort_at_wide 0 ss) ∙ ap (λ z. wide (sort_at k z)) (parts_wide (sort_at 0 ss))
sort_wide SumNode ss = refl

pub sort_alike : (x : Shape) (ss ts : Sorts) → all_wide ss ≡ all_wide ts → wide (sort_node x ss) ≡ wide (sort_node x ts)
sort_alike x ss ts e = sym (sort_wide x ss) ∙ (ap (λ z. wide (sort_node x z)) e ∙ sort_wide x ts)

pub element_alike : (s t : Sort) → wide s ≡ wide t → element s ≡ element t
element_alike s t e = sym (element_wide s) ∙ (ap element e ∙ element_wide t)

pub first_alike : (ss ts : Sorts) → all_wide ss ≡ all_wide ts → element (sort_at 0 ss) ≡ element (sort_at 0 ts)
first_alike ss ts e = element_alike (sort_at 0 ss) (sort_at 0 ts) (sym (sort_at_wide 0 ss) ∙ (ap (sort_at 0) e ∙ sort_at_wide 0 ts))

-- ---- whether a node fits

none_wide : (b : Bool) (ss : Sorts) → of_none b (all_wide ss) ≡ of_none b ss
none_wide b NoSorts = refl
none_wide b (SortAnd s ss) = refl

one_wide : (f : Sort → Bool) → ((s : Sort) → f (wide s) ≡ f s) → (ss : Sorts) → of_one f (all_wide ss) ≡ of_one f ss
one_wide f h NoSorts = refl
one_wide f h (SortAnd a NoSorts) = h a
one_wide f h (SortAnd a (SortAnd b ss)) = refl

two_wide : (f : Sort → Sort → Bool) → ((s t : Sort) → f (wide s) (wide t) ≡ f s t) → (ss : Sorts) → of_two f (all_wide ss) ≡ of_two f ss
two_wide f h NoSorts = refl
two_wide f h (SortAnd a NoSorts) = refl
two_wide f h (SortAnd a (SortAnd b NoSorts)) = h a b
two_wide f h (SortAnd a (SortAnd b (SortAnd c ss))) = refl

three_wide : (f : Sort → Sort → Sort → Bool) → ((s t u : Sort) → f (wide s) (wide t) (wide u) ≡ f s t u) → (ss : Sorts) → of_three f (all_wide ss) ≡ of_three f ss
three_wide f h NoSorts = refl
three_wide f h (SortAnd a NoSorts) = refl
three_wide f h (SortAnd a (SortAnd b NoSorts)) = refl
three_wide f h (SortAnd a (SortAnd b (SortAnd c NoSorts))) = h a b c
three_wide f h (SortAnd a (SortAnd b (SortAnd c (SortAnd d ss)))) = refl

both : {a b c d : Bool} → a ≡ c → b ≡ d → (a && b) ≡ (c && d)
both e f = ap₂ (λ x y. x && y) e f

fits_wide : (x : Shape) (ss : Sorts) → fits_node x (all_wide ss) ≡ fits_node x ss
fits_wide (LitNode g m) ss = none_wide true ss
fits_wide (TruthNode b) ss = none_wide true ss
fits_wide (VarNode n s) ss = none_wide (is_sort s) ss
fits_wide AddNode ss = two_wide both_num (λ a b. both (num_wide a) (num_wide b)) ss
fits_wide SubNode ss = two_wide both_num (λ a b. both (num_wide a) (num_wide b)) ss
fits_wide MulNode ss = two_wide both_num (λ a b. both (num_wide a) (num_wide b)) ss
fits_wide DivNode ss = two_wide both_num (λ a b. both (num_wide a) (num_wide b)) ss
fits_wide ModNode ss = two_wide both_num (λ a b. both (num_wide a) (num_wide b)) ss
fits_wide (WrapNode g n) ss = one_wide (λ a. is_num a && is_range (Bits g n)) (λ a. ap (λ z. z && is_range (Bits g n)) (num_wide a)) ss
fits_wide LeNode ss = two_wide both_num (λ a b. both (num_wide a) (num_wide b)) ss
fits_wide EqNode ss = two_wide matches matches_wide ss
fits_wide NotNode ss = one_wide is_bool bool_wide ss
fits_wide AndNode ss = two_wide both_bool (λ a b. both (bool_wide a) (bool_wide b)) ss
fits_wide OrNode ss = two_wide both_bool (λ a b. both (bool_wide a) (bool_wide b)) ss
fits_wide IteNode ss = three_wide (λ c a b. is_bool c && matches a b) (λ c a b. both (bool_wide c) (matches_wide a b)) ss
fits_wide SelNode ss = two_wide (λ a i. is_array a && is_num i) (λ a i. both (array_wide a) (num_wide i)) ss
fits_wide StoNode ss =
    three_wide (λ a i v. (is_array a && is_num i) && matches (element a) v)
    (λ a i v. both (both (array_wide a) (num_wide i)) (ap (λ z. matches z (wide v)) (element_wide a) ∙ part_wide (element a) v)) ss
fits_wide (ConstNode s) ss = one_wide (λ v. (is_array s && is_sort s) && matches (element s) v) (λ v. ap (λ z. (is_array s && is_sort s) && z) (part_wide (element s) v)) ss
fits_wide MixNode ss =
    three_wide (λ n a b. (is_num n && is_array a) && same_sort a b)
    (λ n a b. and_first (is_num (wide n)) (is_array (wide a)) (same_sort (wide a) (wide b)) ∙ (both (num_wide n) (mixed_wide a b) ∙ sym (and_first (is_num n) (is_array a) (same_sort a b)))) ss
fits_wide (TupNode s) ss = ap (λ z. (is_tuple s && is_sort s) && z) (parts_match_wide (parts s) ss)
fits_wide (GetNode k) ss = one_wide (λ t. is_tuple t && nat_lt k (count (parts t))) (λ t. both (tuple_wide t) (ap (λ z. nat_lt k (count z)) (parts_wide t))) ss
fits_wide SumNode ss = one_wide (λ a. is_array a && is_num (element a)) (λ a. both (array_wide a) (ap is_num (element_wide a))) ss

pub fits_alike : (x : Shape) (ss ts : Sorts) → all_wide ss ≡ all_wide ts → fits_node x ss ≡ fits_node x ts
fits_alike x ss ts e = sym (fits_wide x ss) ∙ (ap (fits_node x) e ∙ fits_wide x ts)
