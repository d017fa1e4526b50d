-- The sort of a term that fits is sound: each range of bits has 1 to 120.
use Rattle.std.proofs.Common.{ℕ, zero, suc, Bool, true, false, cond, ◌&&◌, ◌≡◌, refl}
use Rattle.sv_term.specs.Sorts.{Any, Bits, Sort, NumSort, BoolSort, ArrSort, TupSort, Sorts, NoSorts, SortAnd, is_num, is_array, is_tuple, same_sort, element, parts, sort_at, matches, all_match, is_range, is_sort, are_sorts}
use Rattle.sv_term.specs.Terms.{Shape, LitNode, TruthNode, VarNode, AddNode, SubNode, MulNode, DivNode, ModNode, WrapNode, LeNode, EqNode, NotNode, AndNode, OrNode, IteNode, SelNode, StoNode, ConstNode, MixNode, TupNode, GetNode, SumNode, Term, App, Terms, End, More, sort_node, sort_of, sorts_of, of_none, of_one, fits_node, fits, all_fit}
use Rattle.sv_term.proofs.Same.{both_true, and_true}

at_sound : (k : ℕ) (ss : Sorts) → are_sorts ss ≡ true → is_sort (sort_at k ss) ≡ true
at_sound k NoSorts e = refl
at_sound zero (SortAnd s ss) e = (both_true (is_sort s) (are_sorts ss) e).0
at_sound (suc k) (SortAnd s ss) e = at_sound k ss (both_true (is_sort s) (are_sorts ss) e).1

element_sound : (s : Sort) → is_sort s ≡ true → is_sort (element s) ≡ true
element_sound (NumSort r) e = refl
element_sound BoolSort e = refl
element_sound (ArrSort s) e = e
element_sound (TupSort ss) e = refl

parts_sound : (s : Sort) → is_sort s ≡ true → are_sorts (parts s) ≡ true
parts_sound (NumSort r) e = refl
parts_sound BoolSort e = refl
parts_sound (ArrSort s) e = refl
parts_sound (TupSort ss) e = e

of_none_is : (b : Bool) (ss : Sorts) → of_none b ss ≡ true → b ≡ true
of_none_is b NoSorts e = e
of_none_is b (SortAnd s ss) e = cc e

of_one_is : (f : Sort → Bool) (ss : Sorts) → of_one f ss ≡ true → (s : Sort) × (f s ≡ true)
of_one_is f NoSorts e = cc e
of_one_is f (SortAnd s NoSorts) e = (s, e)
of_one_is f (SortAnd s (SortAnd t ss)) e = cc e

chosen : (b : Bool) (s t : Sort) → is_sort s ≡ true → is_sort t ≡ true → is_sort (cond b s t) ≡ true
chosen true s t e f = e
chosen false s t e f = f

node_sound : (x : Shape) (ss : Sorts) → are_sorts ss ≡ true → fits_node x ss ≡ true → is_sort (sort_node x ss) ≡ true
node_sound (LitNode g m) ss a f = refl
node_sound (TruthNode b) ss a f = refl
node_sound (VarNode n s) ss a f = of_none_is (is_sort s) ss f
node_sound AddNode ss a f = refl
node_sound SubNode ss a f = refl
node_sound MulNode ss a f = refl
node_sound DivNode ss a f = refl
node_sound ModNode ss a f = refl
node_sound (WrapNode g n) ss a f = let h = of_one_is (λ s. is_num s && is_range (Bits g n)) ss f in (both_true (is_num h.0) (is_range (Bits g n)) h.1).1
node_sound LeNode ss a f = refl
node_sound EqNode ss a f = refl
node_sound NotNode ss a f = refl
node_sound AndNode ss a f = refl
node_sound OrNode ss a f = refl
node_sound IteNode ss a f = chosen (same_sort (sort_at 1 ss) (sort_at 2 ss)) (sort_at 1 ss) (NumSort Any) (at_sound 1 ss a) refl
node_sound SelNode ss a f = element_sound (sort_at 0 ss) (at_sound 0 ss a)
node_sound StoNode ss a f = at_sound 0 ss a
node_sound (ConstNode s) ss a f =
    let h = of_one_is (λ v. (is_array s && is_sort s) && matches (element s) v) ss f in
    (both_true (is_array s) (is_sort s) (both_true (is_array s && is_sort s) (matches (element s) h.0) h.1).0).1
node_sound MixNode ss a f = at_sound 1 ss a
node_sound (TupNode s) ss a f = (both_true (is_tuple s) (is_sort s) (both_true (is_tuple s && is_sort s) (all_match (parts s) ss) f).0).1
node_sound (GetNode k) ss a f = at_sound k (parts (sort_at 0 ss)) (parts_sound (sort_at 0 ss) (at_sound 0 ss a))
node_sound SumNode ss a f = refl

mutual
  pub sort_sound : (t : Term) → fits t ≡ true → is_sort (sort_of t) ≡ true
  sort_sound (App x ts) e =
      let b = both_true (all_fit ts) (fits_node x (sorts_of ts)) e in
      node_sound x (sorts_of ts) (sorts_sound ts b.0) b.1

  pub sorts_sound : (ts : Terms) → all_fit ts ≡ true → are_sorts (sorts_of ts) ≡ true
  sorts_sound End e = refl
  sorts_sound (More t ts) e =
      let b = both_true (fits t) (all_fit ts) e in
      and_true (is_sort (sort_of t)) (are_sorts (sorts_of ts)) (sort_sound t b.0) (sorts_sound ts b.1)
