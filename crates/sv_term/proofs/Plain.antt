-- A plain term has the default 0 in each array of numbers, at any depth.
use Rattle.std.proofs.Common.{ℕ, zero, suc, Bool, true, false, cond, not, ◌≡◌, ◌⊎◌, inl, inr, pos, refl, sym, ap, ◌∙◌, subst}
use Rattle.sv_term.specs.Sorts.{Any, Sort, NumSort, BoolSort, ArrSort, TupSort, Sorts, NoSorts, SortAnd, same_sort, is_num, is_flat, element, parts, sort_at, matches, all_match}
use Rattle.sv_term.specs.Values.{Value, Number, Flag, Array, Tuple, Values, NoValues, ValueAnd, Empty, number, flag, value_at, parts_of, default_of, write, mixed, as_nat, fitted, all_fitted, HasZero, IsZeroed, AreZeroed}
use Rattle.sv_term.specs.Terms.{Shape, VarNode, IteNode, SelNode, StoNode, ConstNode, MixNode, TupNode, GetNode, Term, App, Terms, End, More, sort_node, sort_of, sorts_of, fits_node, fits, all_fit, plain_node, is_plain, all_plain, zero_lit, term_at}
use Rattle.sv_term.specs.Models.{Model, meaning, value, values}
use Rattle.sv_term.specs.TermLaws.{PlainHasZero}
use Rattle.sv_term.proofs.Same.{both_true, or_true, sort_is, term_is}
use Rattle.sv_term.proofs.Maps.{zeroed_read, zeroed_write, zeroed_mixed, zero_default}
use Rattle.sv_term.proofs.Numbers.{zero_in}
use Rattle.sv_term.proofs.Typed.{array_is, tuple_is, one_of, two_of, three_of}

flat_zeroed : (s : Sort) (v : Value) → is_flat s ≡ true → IsZeroed s v
flat_zeroed (NumSort r) v e = tt
flat_zeroed BoolSort v e = tt
flat_zeroed (ArrSort s) v e = cc e
flat_zeroed (TupSort ss) v e = cc e

value_at_zeroed : (k : ℕ) (ss : Sorts) (vs : Values) → AreZeroed ss vs → IsZeroed (sort_at k ss) (value_at k vs)
value_at_zeroed k NoSorts vs h = tt
value_at_zeroed k (SortAnd s ss) NoValues h = absurd h
value_at_zeroed zero (SortAnd s ss) (ValueAnd v vs) h = h.0
value_at_zeroed (suc k) (SortAnd s ss) (ValueAnd v vs) h = value_at_zeroed k ss vs h.1

parts_zeroed : (ss : Sorts) (v : Value) → IsZeroed (TupSort ss) v → AreZeroed ss (parts_of v)
parts_zeroed ss (Tuple vs) h = h
parts_zeroed ss (Number z) h = absurd h
parts_zeroed ss (Flag b) h = absurd h
parts_zeroed ss (Array d es) h = absurd h

fitted_zeroed : (s t : Sort) (v : Value) → matches s t ≡ true → IsZeroed t v → IsZeroed s (fitted s v)
fitted_zeroed (NumSort r) t v e h = tt
fitted_zeroed BoolSort t v e h = tt
fitted_zeroed (ArrSort s) t v e h = subst (λ z. IsZeroed z v) (sym (sort_is (ArrSort s) t e)) h
fitted_zeroed (TupSort ss) t v e h = subst (λ z. IsZeroed z v) (sym (sort_is (TupSort ss) t e)) h

all_fitted_zeroed : (ss ts : Sorts) (vs : Values) → all_match ss ts ≡ true → AreZeroed ts vs → AreZeroed ss (all_fitted ss vs)
all_fitted_zeroed NoSorts ts vs e h = tt
all_fitted_zeroed (SortAnd s ss) NoSorts vs e h = cc e
all_fitted_zeroed (SortAnd s ss) (SortAnd t ts) NoValues e h = absurd h
all_fitted_zeroed (SortAnd s ss) (SortAnd t ts) (ValueAnd v vs) e h =
    let b = both_true _ _ e in (fitted_zeroed s t v b.0 h.0, all_fitted_zeroed ss ts vs b.1 h.1)

ite_zeroed : (s t : Sort) (c : Bool) (u v : Value) → IsZeroed s u → IsZeroed t v → IsZeroed (cond (same_sort s t) s (NumSort Any)) (cond c u v)
ite_zeroed s t c u v h k = go (same_sort s t) refl c
  where
    go : (b : Bool) → same_sort s t ≡ b → (c : Bool) → IsZeroed (cond b s (NumSort Any)) (cond c u v)
    go true f true = h
    go true f false = subst (λ z. IsZeroed z v) (sym (sort_is s t f)) k
    go false f c = tt

first_value : (m : Model) (ts : Terms) → value_at 0 (values m ts) ≡ value m (term_at 0 ts)
first_value m End = refl
first_value m (More t ts) = refl

const_zero : (s t : Sort) (v : Value) → matches s t ≡ true → (v ≡ Number (pos 0)) ⊎ (is_num t ≡ false) → HasZero s (fitted s v)
const_zero (NumSort r) t v e (inl z) = subst (λ x. fitted (NumSort r) x ≡ Number (pos 0)) (sym z) (ap (λ b. cond b (Number (pos 0)) (Number (pos 0))) (zero_in r))
const_zero (NumSort r) t v e (inr n) = go t e n
  where
    go : (t : Sort) → matches (NumSort r) t ≡ true → is_num t ≡ false → fitted (NumSort r) v ≡ Number (pos 0)
    go (NumSort q) e n = cc n
    go BoolSort e n = cc e
    go (ArrSort s) e n = cc e
    go (TupSort ss) e n = cc e
const_zero BoolSort t v e o = tt
const_zero (ArrSort s) t v e o = tt
const_zero (TupSort ss) t v e o = tt

not_is : (b : Bool) → not b ≡ true → b ≡ false
not_is true e = cc e
not_is false e = refl

zeroed_node : (m : Model) (x : Shape) (ts : Terms) → plain_node x ts ≡ true → fits_node x (sorts_of ts) ≡ true → AreZeroed (sorts_of ts) (values m ts)
    → IsZeroed (sort_node x (sorts_of ts)) (meaning m.look x (element (sort_at 0 (sorts_of ts))) (values m ts))
zeroed_node m (VarNode n s) ts p e h = m.zeroed n s
zeroed_node m IteNode ts p e h =
    ite_zeroed (sort_at 1 (sorts_of ts)) (sort_at 2 (sorts_of ts)) (flag (value_at 0 (values m ts))) (value_at 1 (values m ts)) (value_at 2 (values m ts)) (value_at_zeroed 1 (sorts_of ts) (values m ts) h) (value_at_zeroed 2 (sorts_of ts) (values m ts) h)
zeroed_node m SelNode ts p e h =
    let a = array_is (sort_at 0 (sorts_of ts)) (both_true _ _ (two_of _ (sorts_of ts) e)).0 in
    zeroed_read (element (sort_at 0 (sorts_of ts))) (number (value_at 1 (values m ts))) (value_at 0 (values m ts)) (subst (λ z. IsZeroed z (value_at 0 (values m ts))) a (value_at_zeroed 0 (sorts_of ts) (values m ts) h))
zeroed_node m StoNode ts p e h =
    let b = both_true _ _ (three_of _ (sorts_of ts) e) in
    let a = array_is (sort_at 0 (sorts_of ts)) (both_true _ _ b.0).0 in
    let s = element (sort_at 0 (sorts_of ts)) in
    let v = fitted (element (sort_at 0 (sorts_of ts))) (value_at 2 (values m ts)) in
    subst (λ z. IsZeroed z (write (number (value_at 1 (values m ts))) (fitted (element (sort_at 0 (sorts_of ts))) (value_at 2 (values m ts))) (value_at 0 (values m ts)))) (sym a)
    (zeroed_write s (number (value_at 1 (values m ts))) v (value_at 0 (values m ts))
    (subst (λ z. IsZeroed z (value_at 0 (values m ts))) a (value_at_zeroed 0 (sorts_of ts) (values m ts) h))
    (fitted_zeroed s (sort_at 2 (sorts_of ts)) (value_at 2 (values m ts)) b.1 (value_at_zeroed 2 (sorts_of ts) (values m ts) h)))
zeroed_node m (ConstNode s) ts p e h =
    let b = both_true _ _ (one_of _ (sorts_of ts) e) in
    let a = array_is s (both_true _ _ b.0).0 in
    let zero_or : (value_at 0 (values m ts) ≡ Number (pos 0)) ⊎ (is_num (sort_at 0 (sorts_of ts)) ≡ false) =
    elim (or_true _ _ p) [ inl q ↦ inl (first_value m ts ∙ ap (value m) (term_is (term_at 0 ts) zero_lit q)) | inr q ↦ inr (not_is _ q) ] in
    subst (λ z. IsZeroed z (Array (fitted (element s) (value_at 0 (values m ts))) Empty)) (sym a) (
      const_zero (element s) (sort_at 0 (sorts_of ts)) (value_at 0 (values m ts)) b.1 zero_or,
      fitted_zeroed (element s) (sort_at 0 (sorts_of ts)) (value_at 0 (values m ts)) b.1 (value_at_zeroed 0 (sorts_of ts) (values m ts) h),
      tt,
    )
zeroed_node m MixNode ts p e h =
    let b = both_true _ _ (three_of _ (sorts_of ts) e) in
    let a = array_is (sort_at 1 (sorts_of ts)) (both_true _ _ b.0).1 in
    let same = sort_is (sort_at 1 (sorts_of ts)) (sort_at 2 (sorts_of ts)) b.1 in
    subst (λ z. IsZeroed z (mixed (as_nat (number (value_at 0 (values m ts)))) (value_at 1 (values m ts)) (value_at 2 (values m ts)))) (sym a)
    (zeroed_mixed (element (sort_at 1 (sorts_of ts))) (as_nat (number (value_at 0 (values m ts)))) (value_at 1 (values m ts)) (value_at 2 (values m ts))
    (subst (λ z. IsZeroed z (value_at 1 (values m ts))) a (value_at_zeroed 1 (sorts_of ts) (values m ts) h))
    (subst (λ z. IsZeroed z (value_at 2 (values m ts))) (sym same ∙ a) (value_at_zeroed 2 (sorts_of ts) (values m ts) h)))
zeroed_node m (TupNode s) ts p e h =
    let b = both_true _ _ e in
    let a = tuple_is s (both_true _ _ b.0).0 in
    subst (λ z. IsZeroed z (Tuple (all_fitted (parts s) (values m ts)))) (sym a) (all_fitted_zeroed (parts s) (sorts_of ts) (values m ts) b.1 h)
zeroed_node m (GetNode k) ts p e h =
    let a = tuple_is (sort_at 0 (sorts_of ts)) (both_true _ _ (one_of _ (sorts_of ts) e)).0 in
    value_at_zeroed k (parts (sort_at 0 (sorts_of ts))) (parts_of (value_at 0 (values m ts))) (parts_zeroed (parts (sort_at 0 (sorts_of ts))) (value_at 0 (values m ts)) (subst (λ z. IsZeroed z (value_at 0 (values m ts))) a (value_at_zeroed 0 (sorts_of ts) (values m ts) h)))
zeroed_node m _ ts p e h = cc p

mutual
  pub zeroed_of : (m : Model) (t : Term) → is_plain t ≡ true → fits t ≡ true → IsZeroed (sort_of t) (value m t)
  zeroed_of m (App x ts) p e = let q = both_true _ _ p in let b = both_true _ _ e in zeroed_node m x ts q.0 b.1 (all_zeroed m ts q.1 b.0)

  all_zeroed : (m : Model) (ts : Terms) → all_plain ts ≡ true → all_fit ts ≡ true → AreZeroed (sorts_of ts) (values m ts)
  all_zeroed m End p e = tt
  all_zeroed m (More t ts) p e =
      let q = both_true _ _ p in
      let b = both_true _ _ e in
      (elim (or_true _ _ q.0) [ inl f ↦ flat_zeroed (sort_of t) (value m t) f | inr f ↦ zeroed_of m t f b.0 ], all_zeroed m ts q.1 b.1)

zero_of_num : (s : Sort) (v : Value) → is_num s ≡ true → HasZero s v → v ≡ Number (pos 0)
zero_of_num (NumSort r) v e h = h
zero_of_num BoolSort v e h = cc e
zero_of_num (ArrSort s) v e h = cc e
zero_of_num (TupSort ss) v e h = cc e

pub plain_has_zero : PlainHasZero
plain_has_zero m t s f p e n =
    zero_of_num s (default_of (value m t)) n (zero_default s (value m t) (subst (λ z. IsZeroed z (value m t)) e (zeroed_of m t p f)))
