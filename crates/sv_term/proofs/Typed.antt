-- The value of a term that fits is of its sort, and a plain one is zeroed.
use Rattle.std.proofs.Common.{ℕ, zero, suc, Bool, true, false, cond, ◌&&◌, ◌||◌, nat_le, ◌≡◌, pos, refl, sym, ◌∙◌, subst, ◌≤◌, arith}
use Rattle.std.proofs.lemmas.Bool.Decides.{nat_tests}
use Rattle.sv_term.specs.Sorts.{Range, Any, Bits, Sort, NumSort, BoolSort, ArrSort, TupSort, Sorts, NoSorts, SortAnd, same_sort, is_num, is_array, is_tuple, element, parts, sort_at, matches, all_match, is_range, is_in}
use Rattle.sv_term.specs.Values.{Value, Number, Flag, Array, Tuple, Values, NoValues, ValueAnd, Empty, number, flag, value_at, parts_of, write, mixed, as_nat, fitted, all_fitted, IsOf, AreOf}
use Rattle.sv_term.specs.Terms.{Shape, LitNode, TruthNode, VarNode, AddNode, SubNode, MulNode, DivNode, ModNode, WrapNode, LeNode, EqNode, NotNode, AndNode, OrNode, IteNode, SelNode, StoNode, ConstNode, MixNode, TupNode, GetNode, SumNode, Term, App, Terms, End, More, sort_node, sort_of, sorts_of, fits_node, fits, all_fit, of_one, of_two, of_three}
use Rattle.sv_term.specs.Models.{Model, meaning, value, values}
use Rattle.sv_term.specs.TermLaws.{ValuesAreOfTheirSort}
use Rattle.sv_term.proofs.Same.{both_true, sort_is}
use Rattle.sv_term.proofs.Maps.{read_of, write_of, mixed_of}
use Rattle.sv_term.proofs.Numbers.{zero_in, wrapped_in}

-- ---- sorts

pub array_is : (s : Sort) → is_array s ≡ true → s ≡ ArrSort (element s)
array_is (ArrSort s) e = refl
array_is (NumSort r) e = cc e
array_is BoolSort e = cc e
array_is (TupSort ss) e = cc e

pub tuple_is : (s : Sort) → is_tuple s ≡ true → s ≡ TupSort (parts s)
tuple_is (TupSort ss) e = refl
tuple_is (NumSort r) e = cc e
tuple_is BoolSort e = cc e
tuple_is (ArrSort s) e = cc e

pub one_of : (f : Sort → Bool) (ss : Sorts) → of_one f ss ≡ true → f (sort_at 0 ss) ≡ true
one_of f (SortAnd a NoSorts) e = e
one_of f NoSorts e = cc e
one_of f (SortAnd a (SortAnd b ss)) e = cc e

pub two_of : (f : Sort → Sort → Bool) (ss : Sorts) → of_two f ss ≡ true → f (sort_at 0 ss) (sort_at 1 ss) ≡ true
two_of f (SortAnd a (SortAnd b NoSorts)) e = e
two_of f NoSorts e = cc e
two_of f (SortAnd a NoSorts) e = cc e
two_of f (SortAnd a (SortAnd b (SortAnd c ss))) e = cc e

pub three_of : (f : Sort → Sort → Sort → Bool) (ss : Sorts) → of_three f ss ≡ true → f (sort_at 0 ss) (sort_at 1 ss) (sort_at 2 ss) ≡ true
three_of f (SortAnd a (SortAnd b (SortAnd c NoSorts))) e = e
three_of f NoSorts e = cc e
three_of f (SortAnd a NoSorts) e = cc e
three_of f (SortAnd a (SortAnd b NoSorts)) e = cc e
three_of f (SortAnd a (SortAnd b (SortAnd c (SortAnd d ss)))) e = cc e

-- ---- values of a sort

num_any : (s : Sort) (v : Value) → is_num s ≡ true → IsOf s v → IsOf (NumSort Any) v
num_any (NumSort r) (Number z) e h = refl
num_any (NumSort r) (Flag b) e h = absurd h
num_any (NumSort r) (Array d es) e h = absurd h
num_any (NumSort r) (Tuple vs) e h = absurd h
num_any BoolSort v e h = cc e
num_any (ArrSort s) v e h = cc e
num_any (TupSort ss) v e h = cc e

pub number_is : (s : Sort) (v : Value) → is_num s ≡ true → IsOf s v → v ≡ Number (number v)
number_is (NumSort r) (Number z) e h = refl
number_is (NumSort r) (Flag b) e h = absurd h
number_is (NumSort r) (Array d es) e h = absurd h
number_is (NumSort r) (Tuple vs) e h = absurd h
number_is BoolSort v e h = cc e
number_is (ArrSort s) v e h = cc e
number_is (TupSort ss) v e h = cc e

pub flag_is : (v : Value) → IsOf BoolSort v → v ≡ Flag (flag v)
flag_is (Flag b) h = refl
flag_is (Number z) h = absurd h
flag_is (Array d es) h = absurd h
flag_is (Tuple vs) h = absurd h

value_at_of : (k : ℕ) (ss : Sorts) (vs : Values) → AreOf ss vs → IsOf (sort_at k ss) (value_at k vs)
value_at_of k NoSorts NoValues h = tt
value_at_of k NoSorts (ValueAnd v vs) h = absurd h
value_at_of k (SortAnd s ss) NoValues h = absurd h
value_at_of zero (SortAnd s ss) (ValueAnd v vs) h = h.0
value_at_of (suc k) (SortAnd s ss) (ValueAnd v vs) h = value_at_of k ss vs h.1

parts_are_of : (ss : Sorts) (v : Value) → IsOf (TupSort ss) v → AreOf ss (parts_of v)
parts_are_of ss (Tuple vs) h = h
parts_are_of ss (Number z) h = absurd h
parts_are_of ss (Flag b) h = absurd h
parts_are_of ss (Array d es) h = absurd h

fitted_num : (r : Range) (v : Value) → IsOf (NumSort Any) v → IsOf (NumSort r) (fitted (NumSort r) v)
fitted_num r (Number z) h = go (is_in r z) refl
  where
    go : (b : Bool) → is_in r z ≡ b → IsOf (NumSort r) (cond b (Number z) (Number (pos 0)))
    go true e = e
    go false e = zero_in r
fitted_num r (Flag b) h = absurd h
fitted_num r (Array d es) h = absurd h
fitted_num r (Tuple vs) h = absurd h

pub fitted_of : (s t : Sort) (v : Value) → matches s t ≡ true → IsOf t v → IsOf s (fitted s v)
fitted_of (NumSort r) t v e h = fitted_num r v (num_any t v (num_too t e) h)
  where
    num_too : (t : Sort) → matches (NumSort r) t ≡ true → is_num t ≡ true
    num_too (NumSort q) e = refl
    num_too BoolSort e = e
    num_too (ArrSort s) e = e
    num_too (TupSort ss) e = e
fitted_of BoolSort t v e h = subst (λ z. IsOf z v) (sym (sort_is BoolSort t e)) h
fitted_of (ArrSort s) t v e h = subst (λ z. IsOf z v) (sym (sort_is (ArrSort s) t e)) h
fitted_of (TupSort ss) t v e h = subst (λ z. IsOf z v) (sym (sort_is (TupSort ss) t e)) h

all_fitted_of : (ss ts : Sorts) (vs : Values) → all_match ss ts ≡ true → AreOf ts vs → AreOf ss (all_fitted ss vs)
all_fitted_of NoSorts NoSorts NoValues e h = tt
all_fitted_of NoSorts NoSorts (ValueAnd v vs) e h = absurd h
all_fitted_of NoSorts (SortAnd t ts) vs e h = cc e
all_fitted_of (SortAnd s ss) NoSorts vs e h = cc e
all_fitted_of (SortAnd s ss) (SortAnd t ts) NoValues e h = absurd h
all_fitted_of (SortAnd s ss) (SortAnd t ts) (ValueAnd v vs) e h =
    let b = both_true _ _ e in (fitted_of s t v b.0 h.0, all_fitted_of ss ts vs b.1 h.1)

-- ---- one node

ite_of : (s t : Sort) (c : Bool) (u v : Value) → matches s t ≡ true → IsOf s u → IsOf t v → IsOf (cond (same_sort s t) s (NumSort Any)) (cond c u v)
ite_of s t c u v e h k = go (same_sort s t) refl c
  where
    nums : (a b c : Bool) → (a && b) || c ≡ true → c ≡ false → (a ≡ true) × (b ≡ true)
    nums true true c e f = (refl, refl)
    nums true false c e f = cc (e, f)
    nums false b c e f = cc (e, f)

    go : (b : Bool) → same_sort s t ≡ b → (c : Bool) → IsOf (cond b s (NumSort Any)) (cond c u v)
    go true f true = h
    go true f false = subst (λ z. IsOf z v) (sym (sort_is s t f)) k
    go false f true = num_any s u (nums _ _ _ e f).0 h
    go false f false = num_any t v (nums _ _ _ e f).1 k

range_ok : (g : Bool) (n : ℕ) → is_range (Bits g n) ≡ true → 1 ≤ n
range_ok g n e = let b = both_true _ _ e in le_from 1 n b.0
  where
    le_from : (a b : ℕ) → nat_le a b ≡ true → a ≤ b
    le_from a b h = grind (arith, nat_tests)

node_of : (m : Model) (x : Shape) (ss : Sorts) (vs : Values) → fits_node x ss ≡ true → AreOf ss vs → IsOf (sort_node x ss) (meaning m.look x (element (sort_at 0 ss)) vs)
node_of m (LitNode g k) ss vs e h = refl
node_of m (TruthNode b) ss vs e h = tt
node_of m (VarNode n s) ss vs e h = m.of_sort n s
node_of m AddNode ss vs e h = refl
node_of m SubNode ss vs e h = refl
node_of m MulNode ss vs e h = refl
node_of m DivNode ss vs e h = refl
node_of m ModNode ss vs e h = refl
node_of m (WrapNode g n) ss vs e h = wrapped_in g n (number (value_at 0 vs)) (range_ok g n (both_true _ _ (one_of _ ss e)).1)
node_of m LeNode ss vs e h = tt
node_of m EqNode ss vs e h = tt
node_of m NotNode ss vs e h = tt
node_of m AndNode ss vs e h = tt
node_of m OrNode ss vs e h = tt
node_of m IteNode ss vs e h =
    ite_of (sort_at 1 ss) (sort_at 2 ss) (flag (value_at 0 vs)) (value_at 1 vs) (value_at 2 vs) (both_true _ _ (three_of _ ss e)).1 (value_at_of 1 ss vs h) (value_at_of 2 ss vs h)
node_of m SelNode ss vs e h =
    let a = array_is (sort_at 0 ss) (both_true _ _ (two_of _ ss e)).0 in
    read_of (element (sort_at 0 ss)) (number (value_at 1 vs)) (value_at 0 vs) (subst (λ z. IsOf z (value_at 0 vs)) a (value_at_of 0 ss vs h))
node_of m StoNode ss vs e h =
    let b = both_true _ _ (three_of _ ss e) in
    let a = array_is (sort_at 0 ss) (both_true _ _ b.0).0 in
    subst (λ z. IsOf z (write (number (value_at 1 vs)) (fitted (element (sort_at 0 ss)) (value_at 2 vs)) (value_at 0 vs))) (sym a)
    (write_of (element (sort_at 0 ss)) (number (value_at 1 vs)) (fitted (element (sort_at 0 ss)) (value_at 2 vs)) (value_at 0 vs)
    (subst (λ z. IsOf z (value_at 0 vs)) a (value_at_of 0 ss vs h))
    (fitted_of (element (sort_at 0 ss)) (sort_at 2 ss) (value_at 2 vs) b.1 (value_at_of 2 ss vs h)))
node_of m (ConstNode s) ss vs e h =
    let b = both_true _ _ (one_of _ ss e) in
    let a = array_is s (both_true _ _ b.0).0 in
    subst (λ z. IsOf z (Array (fitted (element s) (value_at 0 vs)) Empty)) (sym a)
    (fitted_of (element s) (sort_at 0 ss) (value_at 0 vs) b.1 (value_at_of 0 ss vs h), tt, tt, tt)
node_of m MixNode ss vs e h =
    let b = both_true _ _ (three_of _ ss e) in
    let a = array_is (sort_at 1 ss) (both_true _ _ b.0).1 in
    let s = element (sort_at 1 ss) in
    let same = sort_is (sort_at 1 ss) (sort_at 2 ss) b.1 in
    subst (λ z. IsOf z (mixed (as_nat (number (value_at 0 vs))) (value_at 1 vs) (value_at 2 vs))) (sym a)
    (mixed_of s (as_nat (number (value_at 0 vs))) (value_at 1 vs) (value_at 2 vs)
    (subst (λ z. IsOf z (value_at 1 vs)) a (value_at_of 1 ss vs h))
    (subst (λ z. IsOf z (value_at 2 vs)) (sym same ∙ a) (value_at_of 2 ss vs h)))
node_of m (TupNode s) ss vs e h =
    let b = both_true _ _ e in
    let a = tuple_is s (both_true _ _ b.0).0 in
    subst (λ z. IsOf z (Tuple (all_fitted (parts s) vs))) (sym a) (all_fitted_of (parts s) ss vs b.1 h)
node_of m (GetNode k) ss vs e h =
    let a = tuple_is (sort_at 0 ss) (both_true _ _ (one_of _ ss e)).0 in
    value_at_of k (parts (sort_at 0 ss)) (parts_of (value_at 0 vs)) (parts_are_of (parts (sort_at 0 ss)) (value_at 0 vs) (subst (λ z. IsOf z (value_at 0 vs)) a (value_at_of 0 ss vs h)))
node_of m SumNode ss vs e h = refl

mutual
  pub value_of : (m : Model) (t : Term) → fits t ≡ true → IsOf (sort_of t) (value m t)
  value_of m (App x ts) e = let b = both_true _ _ e in node_of m x (sorts_of ts) (values m ts) b.1 (values_of m ts b.0)

  pub values_of : (m : Model) (ts : Terms) → all_fit ts ≡ true → AreOf (sorts_of ts) (values m ts)
  values_of m End e = tt
  values_of m (More t ts) e = let b = both_true _ _ e in (value_of m t b.0, values_of m ts b.1)

pub values_are_of_their_sort : ValuesAreOfTheirSort
values_are_of_their_sort m t e = value_of m t e
