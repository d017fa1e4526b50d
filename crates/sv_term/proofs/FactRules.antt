-- The conclusion of every rule is true wherever its premises are.
use Rattle.std.proofs.Common.{ℕ, zero, suc, ◌<◌, ◌≤◌, Bool, true, false, cond, not, ◌&&◌, ◌||◌, nat_eq, nat_le, [], ◌∷◌, ◌≡◌, inl, inr, refl, sym, ap, ap₂, ◌∙◌, subst, arith}
use Rattle.std.proofs.lemmas.Int.{ints}
use Rattle.std.proofs.lemmas.Bool.Decides.{nat_tests}
use lib.IntN.{ℤ, pos, negsuc, ◌+ℤ◌, ◌-ℤ◌}
use lib.Signed.{◌≤ℤ◌, ◌<ℤ◌, le_z}
use Rattle.sv_term.specs.Sorts.{Range, Any, Low, Bits, Sort, NumSort, BoolSort, ArrSort, TupSort, Sorts, NoSorts, SortAnd, same_sort, is_num, is_bool, is_array, is_tuple, element, parts, sort_at, matches, all_match, is_range, is_sort, is_in}
use Rattle.sv_term.specs.Values.{Value, Number, Flag, Array, Tuple, ValueAnd, Empty, same_value, number, flag, value_at, default_of, read, write, mixed, sum, as_nat, fitted, all_fitted, IsOf}
use Rattle.sv_term.specs.Terms.{Shape, EqNode, LeNode, SelNode, StoNode, MixNode, SumNode, AddNode, WrapNode, TupNode, GetNode, Term, App, Terms, End, More, two, one, three, Lit, Add, Sub, Mod, Wrap, Le, Eq, Ite, Sel, Sto, Const, Mix, Tup, Get, Sum, zero_lit, same_term, sort_of, sorts_of, fits_node, fits, all_fit, term_at, is_plain}
use Rattle.sv_term.specs.Models.{Model, meaning, value, values, truth, is_claim}
use Rattle.sv_term.specs.FactRules.{Says, IsTrueIn, AreTrueIn, are_facts, least_lit, greatest_lit, has_least, has_greatest, is_low, range_facts, in_range, differing, size, times, Instance, premises_of, conclusion_of, IsInstance, InstancesAreTrue, AndLeft, AndRight, NoOrLeft, NoOrRight, NotHolds, NotFails, OrElseRight, OrElseLeft, NoAndRight, NoAndLeft, IteThen, IteElse, NoIteThen, NoIteElse, EqRight, EqLeft, UnequalRight, UnequalLeft, Itself, Turned, Through, Alike, Chosen, Passed, ReadBack, ReadEqual, ReadOther, ReadConst, ReadWithin, ReadAbove, PartIs, ReadBelow, AtLeast, AtMost, WrapsNot, QuotientLow, QuotientHigh, QuotientHighNegative, QuotientLowNegative, RemainderIs, ProductOfHigh, ProductOfLow, ProductHighLow, ProductLowHigh, SumOfStore, SumOfNone, SumAtLeast, SumOverOne, SumOverTwo, Strict, Between}
use Rattle.sv_term.proofs.Same.{both_true, and_true, or_true, same_nat, nat_same, sort_is, value_is, value_self, term_is}
use Rattle.sv_term.proofs.Maps.{read_same, read_other, mixed_in, mixed_out, sum_write, sum_low, sum_over_one, sum_over_two}
use Rattle.sv_term.proofs.Numbers.{le_true, le_of, lt_of_not, zero_in, wraps_not, div_low, div_high, div_high_neg, div_low_neg, rem_is, high_high, low_low, high_low, low_high}
use Rattle.sv_term.proofs.Typed.{array_is, number_is, flag_is, value_of}
use Rattle.sv_term.proofs.Plain.{plain_has_zero}

-- ---- truth values

andalso : (a b : Bool) → (a && b) ≡ false → a ≡ true → b ≡ false
andalso true b e f = e
andalso false b e f = cc f

and_left : (a b : Bool) → (a && b) ≡ false → b ≡ true → a ≡ false
and_left true b e f = cc (e, f)
and_left false b e f = refl

neither : (a b : Bool) → (a || b) ≡ false → (a ≡ false) × (b ≡ false)
neither true b e = cc e
neither false b e = (refl, e)

or_right : (a b : Bool) → (a || b) ≡ true → a ≡ false → b ≡ true
or_right true b e f = cc f
or_right false b e f = e

or_left : (a b : Bool) → (a || b) ≡ true → b ≡ false → a ≡ true
or_left true b e f = refl
or_left false b e f = cc (e, f)

not_true_is : (a : Bool) → not a ≡ true → a ≡ false
not_true_is true e = cc e
not_true_is false e = refl

not_false_is : (a : Bool) → not a ≡ false → a ≡ true
not_false_is true e = refl
not_false_is false e = cc e

chosen : (c : Bool) (u v : Value) → c ≡ true → cond c u v ≡ u
chosen true u v e = refl
chosen false u v e = cc e

passed : (c : Bool) (u v : Value) → c ≡ false → cond c u v ≡ v
passed true u v e = cc e
passed false u v e = refl

other_flag : (a b s : Bool) → same_value (Flag a) (Flag b) ≡ false → a ≡ s → b ≡ not s
other_flag true true s e f = cc e
other_flag false false s e f = cc e
other_flag true false s e f = ap not f
other_flag false true s e f = ap not f

-- ---- what fits

claim_fits : (t : Term) → is_claim t ≡ true → fits t ≡ true
claim_fits t e = (both_true _ _ e).0

is_bool_is : (s : Sort) → is_bool s ≡ true → s ≡ BoolSort
is_bool_is BoolSort e = refl
is_bool_is (NumSort r) e = cc e
is_bool_is (ArrSort s) e = cc e
is_bool_is (TupSort ss) e = cc e

-- the value of a claim is a truth value
pub claim_flag : (m : Model) (t : Term) → is_claim t ≡ true → value m t ≡ Flag (truth m t)
claim_flag m t e =
    let b = both_true _ _ e in
    flag_is (value m t) (subst (λ z. IsOf z (value m t)) (is_bool_is (sort_of t) b.1) (value_of m t b.0))

pub one_args : (x : Shape) (a : Term) → fits (one x a) ≡ true → (fits a ≡ true) × (fits_node x (SortAnd (sort_of a) NoSorts) ≡ true)
one_args x a e = let b = both_true _ _ e in ((both_true _ _ b.0).0, b.1)

pub two_args : (x : Shape) (a b : Term) → fits (two x a b) ≡ true → (fits a ≡ true) × (fits b ≡ true) × (fits_node x (SortAnd (sort_of a) (SortAnd (sort_of b) NoSorts)) ≡ true)
two_args x a b e =
    let p = both_true _ _ e in
    let q = both_true _ _ p.0 in
    (q.0, (both_true _ _ q.1).0, p.1)

pub three_args : (x : Shape) (a b c : Term) → fits (three x a b c) ≡ true
    → (fits a ≡ true) × (fits b ≡ true) × (fits c ≡ true) × (fits_node x (SortAnd (sort_of a) (SortAnd (sort_of b) (SortAnd (sort_of c) NoSorts))) ≡ true)
three_args x a b c e =
    let p = both_true _ _ e in
    let q = both_true _ _ p.0 in
    let r = both_true _ _ q.1 in
    (q.0, r.0, (both_true _ _ r.1).0, p.1)

pub record FitsEq (t u : Term) : Type 0 where
  pub left : fits t ≡ true
  pub right : fits u ≡ true
  pub one_sort : matches (sort_of t) (sort_of u) ≡ true

pub fits_eq : (t u : Term) → is_claim (Eq t u) ≡ true → FitsEq t u
fits_eq t u e = let h = two_args EqNode t u (claim_fits (Eq t u) e) in record { left = h.0; right = h.1; one_sort = h.2 }

pub record FitsLe (t u : Term) : Type 0 where
  pub left : fits t ≡ true
  pub right : fits u ≡ true
  pub left_num : is_num (sort_of t) ≡ true
  pub right_num : is_num (sort_of u) ≡ true

pub fits_le : (t u : Term) → is_claim (Le t u) ≡ true → FitsLe t u
fits_le t u e =
    let h = two_args LeNode t u (claim_fits (Le t u) e) in
    let n = both_true (is_num (sort_of t)) (is_num (sort_of u)) h.2 in
    record { left = h.0; right = h.1; left_num = n.0; right_num = n.1 }

pub record FitsSel (a i : Term) : Type 0 where
  pub map : fits a ≡ true
  pub index : fits i ≡ true
  pub is_map : is_array (sort_of a) ≡ true
  pub index_num : is_num (sort_of i) ≡ true

pub fits_sel : (a i : Term) → fits (Sel a i) ≡ true → FitsSel a i
fits_sel a i e =
    let h = two_args SelNode a i e in
    let n = both_true (is_array (sort_of a)) (is_num (sort_of i)) h.2 in
    record { map = h.0; index = h.1; is_map = n.0; index_num = n.1 }

pub record FitsSto (a i v : Term) : Type 0 where
  pub map : fits a ≡ true
  pub index : fits i ≡ true
  pub new : fits v ≡ true
  pub is_map : is_array (sort_of a) ≡ true
  pub index_num : is_num (sort_of i) ≡ true

pub fits_sto : (a i v : Term) → fits (Sto a i v) ≡ true → FitsSto a i v
fits_sto a i v e =
    let h = three_args StoNode a i v e in
    let n = both_true (is_array (sort_of a) && is_num (sort_of i)) (matches (element (sort_of a)) (sort_of v)) h.3 in
    let k = both_true (is_array (sort_of a)) (is_num (sort_of i)) n.0 in
    record { map = h.0; index = h.1; new = h.2; is_map = k.0; index_num = k.1 }

pub record FitsMix (n a b : Term) : Type 0 where
  pub first : fits a ≡ true
  pub second : fits b ≡ true
  pub is_map : is_array (sort_of a) ≡ true
  pub one_sort : sort_of a ≡ sort_of b

pub fits_mix : (n a b : Term) → fits (Mix n a b) ≡ true → FitsMix n a b
fits_mix n a b e =
    let h = three_args MixNode n a b e in
    let k = both_true (is_num (sort_of n) && is_array (sort_of a)) (same_sort (sort_of a) (sort_of b)) h.3 in
    record { first = h.1; second = h.2; is_map = (both_true (is_num (sort_of n)) (is_array (sort_of a)) k.0).1; one_sort = sort_is (sort_of a) (sort_of b) k.1 }

pub record FitsSum (a : Term) : Type 0 where
  pub map : fits a ≡ true
  pub is_map : is_array (sort_of a) ≡ true
  pub of_num : is_num (element (sort_of a)) ≡ true

pub fits_sum : (a : Term) → fits (Sum a) ≡ true → FitsSum a
fits_sum a e =
    let h = one_args SumNode a e in
    let n = both_true (is_array (sort_of a)) (is_num (element (sort_of a))) h.1 in
    record { map = h.0; is_map = n.0; of_num = n.1 }

num_value : (m : Model) (t : Term) → fits t ≡ true → is_num (sort_of t) ≡ true → value m t ≡ Number (number (value m t))
num_value m t f n = number_is (sort_of t) (value m t) n (value_of m t f)

map_value : (m : Model) (t : Term) → fits t ≡ true → is_array (sort_of t) ≡ true → IsOf (ArrSort (element (sort_of t))) (value m t)
map_value m t f a = subst (λ z. IsOf z (value m t)) (array_is (sort_of t) a) (value_of m t f)

-- ---- equations

eq_true : (u v : Value) → u ≡ v → same_value u v ≡ true
eq_true u v e = subst (λ z. same_value u z ≡ true) e (value_self u)

numbers_equal : (u v : Value) → u ≡ Number (number u) → v ≡ Number (number v) → number u ≡ number v → u ≡ v
numbers_equal u v e f g = e ∙ (ap Number g ∙ sym f)

unequal_numbers : (u v : Value) → same_value u v ≡ false → u ≡ Number (number u) → v ≡ Number (number v) → number u ≡ number v → ⊥
unequal_numbers u v n e f g = let t = eq_true u v (numbers_equal u v e f g) in cc (t, n)

-- ---- what is in the range of a sort

fitted_own : (s : Sort) (v : Value) → IsOf s v → fitted s v ≡ v
fitted_own (NumSort r) (Number z) h = ap (λ b. cond b (Number z) (Number (pos 0))) h
fitted_own (NumSort r) (Flag b) h = absurd h
fitted_own (NumSort r) (Array d es) h = absurd h
fitted_own (NumSort r) (Tuple vs) h = absurd h
fitted_own BoolSort v h = refl
fitted_own (ArrSort s) v h = refl
fitted_own (TupSort ss) v h = refl

facts_in : (m : Model) (r : Range) (v : Term) → AreTrueIn m (range_facts (NumSort r) v) → is_in r (number (value m v)) ≡ true
facts_in m Any v h = refl
facts_in m Low v h = h.0
facts_in m (Bits true n) v h = and_true _ _ h.0 h.1.0
facts_in m (Bits false n) v h = and_true _ _ h.0 h.1.0

facts_fitted : (m : Model) (s : Sort) (v : Term) → AreTrueIn m (range_facts s v) → fitted s (value m v) ≡ value m v
facts_fitted m (NumSort r) v h = ap (λ b. cond b (value m v) (Number (pos 0))) (facts_in m r v h)
facts_fitted m BoolSort v h = refl
facts_fitted m (ArrSort s) v h = refl
facts_fitted m (TupSort ss) v h = refl

pub fitted_in : (m : Model) (s : Sort) (v : Term) → fits v ≡ true → AreTrueIn m (in_range s v) → fitted s (value m v) ≡ value m v
fitted_in m s v f h = go (same_sort s (sort_of v)) refl h
  where
    go : (b : Bool) → same_sort s (sort_of v) ≡ b → AreTrueIn m (cond b [] (range_facts s v)) → fitted s (value m v) ≡ value m v
    go true e k = fitted_own s (value m v) (subst (λ z. IsOf z (value m v)) (sym (sort_is s (sort_of v) e)) (value_of m v f))
    go false e k = facts_fitted m s v k

own_in : (r : Range) (v : Value) → IsOf (NumSort r) v → is_in r (number v) ≡ true
own_in r (Number z) h = h
own_in r (Flag b) h = absurd h
own_in r (Array d es) h = absurd h
own_in r (Tuple vs) h = absurd h

number_in : (m : Model) (r : Range) (v : Term) → fits v ≡ true → AreTrueIn m (in_range (NumSort r) v) → is_in r (number (value m v)) ≡ true
number_in m r v f h = go (same_sort (NumSort r) (sort_of v)) refl h
  where
    go : (b : Bool) → same_sort (NumSort r) (sort_of v) ≡ b → AreTrueIn m (cond b [] (range_facts (NumSort r) v)) → is_in r (number (value m v)) ≡ true
    go true e k = own_in r (value m v) (subst (λ z. IsOf z (value m v)) (sym (sort_is (NumSort r) (sort_of v) e)) (value_of m v f))
    go false e k = facts_in m r v k

at_least : (m : Model) (s : Sort) (v : Value) → has_least s ≡ true → IsOf s v → le_z (number (value m (least_lit s))) (number v) ≡ true
at_least m (NumSort Low) v e h = own_in Low v h
at_least m (NumSort (Bits true n)) v e h = (both_true _ _ (own_in (Bits true n) v h)).0
at_least m (NumSort (Bits false n)) v e h = (both_true _ _ (own_in (Bits false n) v h)).0
at_least m (NumSort Any) v e h = cc e
at_least m BoolSort v e h = cc e
at_least m (ArrSort s) v e h = cc e
at_least m (TupSort ss) v e h = cc e

at_most : (m : Model) (s : Sort) (v : Value) → has_greatest s ≡ true → IsOf s v → le_z (number v) (number (value m (greatest_lit s))) ≡ true
at_most m (NumSort (Bits g n)) v e h = (both_true _ _ (own_in (Bits g n) v h)).1
at_most m (NumSort Low) v e h = cc e
at_most m (NumSort Any) v e h = cc e
at_most m BoolSort v e h = cc e
at_most m (ArrSort s) v e h = cc e
at_most m (TupSort ss) v e h = cc e

low_number : (s : Sort) → is_low s ≡ true → (v : Value) → IsOf s v → pos 0 ≤ℤ number v
low_number (NumSort Low) e v h = le_of (pos 0) (number v) (own_in Low v h)
low_number (NumSort (Bits false n)) e v h = le_of (pos 0) (number v) (both_true _ _ (own_in (Bits false n) v h)).0
low_number (NumSort (Bits true n)) e v h = cc e
low_number (NumSort Any) e v h = cc e
low_number BoolSort e v h = cc e
low_number (ArrSort s) e v h = cc e
low_number (TupSort ss) e v h = cc e

zero_of : (s : Sort) → is_num s ≡ true → IsOf s (Number (pos 0))
zero_of (NumSort r) e = zero_in r
zero_of BoolSort e = cc e
zero_of (ArrSort s) e = cc e
zero_of (TupSort ss) e = cc e

-- ---- nodes that are alike

same_element : (s t : Sort) → matches s t ≡ true → element s ≡ element t
same_element s t e = elim (or_true _ _ e) [ inl b ↦ (let q = both_true _ _ b in none s q.0 ∙ sym (none t q.1)) | inr b ↦ ap element (sort_is s t b) ]
  where
    none : (s : Sort) → is_num s ≡ true → element s ≡ BoolSort
    none (NumSort r) e = refl
    none BoolSort e = cc e
    none (ArrSort s) e = cc e
    none (TupSort ss) e = cc e

pub record Alike_in (m : Model) (ts us : Terms) : Type 0 where
  pub values_alike : values m ts ≡ values m us
  pub element_alike : element (sort_at 0 (sorts_of ts)) ≡ element (sort_at 0 (sorts_of us))

same_size : (m n : ℕ) → nat_eq (suc m) (suc n) ≡ true → nat_eq m n ≡ true
same_size m n e = nat_same m n (let f = same_nat (suc m) (suc n) e in omega arith)

alike : (m : Model) (ts us : Terms) → nat_eq (size ts) (size us) ≡ true → are_facts (differing ts us) ≡ true → AreTrueIn m (differing ts us) → Alike_in m ts us
alike m End End n f h = record { values_alike = refl; element_alike = refl }
alike m End (More u us) n f h = absurd (apart (size us) (same_nat 0 (suc (size us)) n))
  where
    apart : (k : ℕ) → 0 ≡ suc k → ⊥
    apart k e = omega arith
alike m (More t ts) End n f h = absurd (apart (size ts) (same_nat (suc (size ts)) 0 n))
  where
    apart : (k : ℕ) → suc k ≡ 0 → ⊥
    apart k e = omega arith
alike m (More t ts) (More u us) n f h = go (same_term t u) refl f h (λ g k. alike m ts us (same_size (size ts) (size us) n) g k)
  where
    go : (b : Bool) → same_term t u ≡ b → are_facts (cond b (differing ts us) (Says true (Eq t u) ∷ differing ts us)) ≡ true
        → AreTrueIn m (cond b (differing ts us) (Says true (Eq t u) ∷ differing ts us))
        → (are_facts (differing ts us) ≡ true → AreTrueIn m (differing ts us) → Alike_in m ts us) → Alike_in m (More t ts) (More u us)
    go true e g k ih =
        let tu : t ≡ u = term_is t u e in
        record {
          values_alike = ap₂ ValueAnd (ap (value m) tu) (ih g k).values_alike;
          element_alike = ap (λ z. element (sort_of z)) tu;
        }
    go false e g k ih =
        let q = both_true _ _ g in
        let w = fits_eq t u q.0 in
        record {
          values_alike = ap₂ ValueAnd (value_is (value m t) (value m u) k.0) (ih q.1 k.1).values_alike;
          element_alike = same_element (sort_of t) (sort_of u) w.one_sort;
        }

-- ---- parts of a tuple

part_fitted : (m : Model) (k : ℕ) (ss : Sorts) (ts : Terms) → all_match ss (sorts_of ts) ≡ true → value_at k (all_fitted ss (values m ts)) ≡ fitted (sort_at k ss) (value m (term_at k ts))
part_fitted m k NoSorts End e = refl
part_fitted m k NoSorts (More t ts) e = cc e
part_fitted m k (SortAnd s ss) End e = cc e
part_fitted m zero (SortAnd s ss) (More t ts) e = refl
part_fitted m (suc k) (SortAnd s ss) (More t ts) e = part_fitted m k ss ts (both_true _ _ e).1

pub term_at_fits : (k : ℕ) (ts : Terms) → all_fit ts ≡ true → fits (term_at k ts) ≡ true
term_at_fits k End e = refl
term_at_fits zero (More t ts) e = (both_true _ _ e).0
term_at_fits (suc k) (More t ts) e = term_at_fits k ts (both_true _ _ e).1

-- ---- mixes

not_below : (n : ℤ) (j : ℤ) → n ≤ℤ j → (k : ℕ) → k < as_nat n → pos k ≡ j → ⊥
not_below (pos n) j h k l e = omega (arith, ints)
not_below (negsuc n) j h k l e = omega arith

not_negative : (n : ℕ) (j : ℤ) → j <ℤ pos 0 → (k : ℕ) → k < n → pos k ≡ j → ⊥
not_negative n j h k l e = omega (arith, ints)

within : (s : Sort) (n j : ℤ) (a b : Value) → IsOf (ArrSort s) a → IsOf (ArrSort s) b → j <ℤ n → pos 0 ≤ℤ j → read j (mixed (as_nat n) a b) ≡ read j a
within s (pos n) (pos k) a b h g l z = mixed_in s n k a b h g (omega (arith, ints))
within s (negsuc n) (pos k) a b h g l z = absurd (omega (arith, ints))
within s n (negsuc k) a b h g l z = absurd (omega (arith, ints))

-- ---- sums

summed : (x y w v : ℤ) → x +ℤ y ≡ w +ℤ v → x ≡ w +ℤ (v -ℤ y)
summed x y w v e = omega (arith, ints)

sum_of_none : (d : Value) → sum (Array d Empty) ≡ pos 0
sum_of_none d = go (same_value d (Number (pos 0)))
  where
    go : (b : Bool) → cond b (pos 0) (pos 0) ≡ pos 0
    go true = refl
    go false = refl

strict : (u v : Value) → same_value u v ≡ false → u ≡ Number (number u) → v ≡ Number (number v) → le_z (number u) (number v) ≡ true → le_z (number v) (number u) ≡ false
strict u v n e f l = go (le_z (number v) (number u)) refl
  where
    equal : (x y : ℤ) → le_z x y ≡ true → le_z y x ≡ true → x ≡ y
    equal x y p q = omega (arith, ints)

    go : (b : Bool) → le_z (number v) (number u) ≡ b → b ≡ false
    go true g = absurd (unequal_numbers u v n e f (equal (number u) (number v) l g))
    go false g = refl

between : (x y : ℤ) → le_z x y ≡ true → le_z y x ≡ true → x ≡ y
between x y p q = omega (arith, ints)

at_least_one : (d : ℕ) → nat_le 1 d ≡ true → 1 ≤ d
at_least_one d e = grind (arith, nat_tests)

one_bit : (g : Bool) (n : ℕ) → is_range (Bits g n) ≡ true → 1 ≤ n
one_bit g n e = at_least_one n (both_true _ _ e).0

-- what the rows on sums need of their array
pub record Summable (m : Model) (a : Term) : Type 0 where
  pub map : IsOf (ArrSort (element (sort_of a))) (value m a)
  pub zero_at_first : default_of (value m a) ≡ Number (pos 0)
  pub zero_fits : IsOf (element (sort_of a)) (Number (pos 0))

summable : (m : Model) (a : Term) → is_plain a ≡ true → FitsSum a → Summable m a
summable m a p f = record {
  map = map_value m a f.map f.is_map;
  zero_at_first = plain_has_zero m a (element (sort_of a)) f.map p (array_is (sort_of a) f.is_map) f.of_num;
  zero_fits = zero_of (element (sort_of a)) f.of_num;
}

-- ---- the rows

eq_claim : (m : Model) (t u : Term) → value m t ≡ value m u → truth m (Eq t u) ≡ true
eq_claim m t u e = eq_true (value m t) (value m u) e

ite_then : (c : Bool) (u v : Value) (s : Bool) → flag (cond c u v) ≡ s → c ≡ true → flag u ≡ s
ite_then true u v s e f = e
ite_then false u v s e f = cc f

ite_else : (c : Bool) (u v : Value) (s : Bool) → flag (cond c u v) ≡ s → c ≡ false → flag v ≡ s
ite_else true u v s e f = cc f
ite_else false u v s e f = e

same_flag : (u v : Value) (s : Bool) → same_value u v ≡ true → flag u ≡ s → flag v ≡ s
same_flag u v s e f = subst (λ z. flag z ≡ s) (value_is u v e) f

same_flag_back : (u v : Value) (s : Bool) → same_value u v ≡ true → flag v ≡ s → flag u ≡ s
same_flag_back u v s e f = subst (λ z. flag z ≡ s) (sym (value_is u v e)) f

unequal_flag : (m : Model) (p q : Term) (s : Bool) → is_claim p ≡ true → is_claim q ≡ true → truth m (Eq p q) ≡ false → truth m p ≡ s → truth m q ≡ not s
unequal_flag m p q s f g e h =
    other_flag (truth m p) (truth m q) s (subst (λ z. same_value (Flag (truth m p)) z ≡ false) (claim_flag m q g) (subst (λ z. same_value z (value m q) ≡ false) (claim_flag m p f) e)) h

unequal_turned : (m : Model) (p q : Term) → truth m (Eq p q) ≡ false → truth m (Eq q p) ≡ false
unequal_turned m p q e = go (truth m (Eq q p)) refl
  where
    go : (b : Bool) → truth m (Eq q p) ≡ b → b ≡ false
    go true f = let t = eq_claim m p q (sym (value_is (value m q) (value m p) f)) in cc (t, e)
    go false f = refl

unequal_index : (m : Model) (i j : Term) → is_claim (Eq i j) ≡ true → is_num (sort_of i) ≡ true → is_num (sort_of j) ≡ true → truth m (Eq i j) ≡ false → number (value m i) ≡ number (value m j) → ⊥
unequal_index m i j c ni nj e f =
    let w = fits_eq i j c in
    unequal_numbers (value m i) (value m j) e (num_value m i w.left ni) (num_value m j w.right nj) f

alike_true : (m : Model) (x : Shape) (ts us : Terms) → Alike_in m ts us → value m (App x ts) ≡ value m (App x us)
alike_true m x ts us a = ap₂ (meaning m.look x) a.element_alike a.values_alike

pub read_back : (m : Model) (a i v : Term) → fits (Sto a i v) ≡ true → AreTrueIn m (in_range (element (sort_of a)) v) → value m (Sel (Sto a i v) i) ≡ value m v
read_back m a i v f h =
    let w = fits_sto a i v f in
    read_same (element (sort_of a)) (number (value m i)) (fitted (element (sort_of a)) (value m v)) (value m a) (map_value m a w.map w.is_map)
    ∙ fitted_in m (element (sort_of a)) v w.new h

pub part_is : (m : Model) (k : ℕ) (s : Sort) (ts : Terms) → fits (Tup s ts) ≡ true → AreTrueIn m (in_range (sort_at k (parts s)) (term_at k ts)) → value m (Get k (Tup s ts)) ≡ value m (term_at k ts)
part_is m k s ts f h =
    let b = both_true (all_fit ts) (fits_node (TupNode s) (sorts_of ts)) f in
    let c = both_true (is_tuple s && is_sort s) (all_match (parts s) (sorts_of ts)) b.1 in
    part_fitted m k (parts s) ts c.1 ∙ fitted_in m (sort_at k (parts s)) (term_at k ts) (term_at_fits k ts b.0) h

wraps_same : (m : Model) (g : Bool) (n : ℕ) (a : Term) → fits (Wrap g n a) ≡ true → AreTrueIn m (in_range (NumSort (Bits g n)) a) → value m (Wrap g n a) ≡ value m a
wraps_same m g n a f h =
    let w = one_args (WrapNode g n) a f in
    let b = both_true (is_num (sort_of a)) (is_range (Bits g n)) w.1 in
    ap Number (wraps_not g n (number (value m a)) (one_bit g n b.1) (number_in m (Bits g n) a w.0 h)) ∙ sym (num_value m a w.0 b.0)

store_summed : (m : Model) (a i v : Term) → is_plain a ≡ true → fits (Sum (Sto a i v)) ≡ true → AreTrueIn m (in_range (element (sort_of a)) v)
    → value m (Sum (Sto a i v)) ≡ value m (Add (Sum a) (Sub v (Sel a i)))
store_summed m a i v p f h =
    let s = fits_sum (Sto a i v) f in
    let w = fits_sto a i v s.map in
    let t = summable m a p (record { map = w.map; is_map = w.is_map; of_num = s.of_num }) in
    let new = fitted (element (sort_of a)) (value m v) in
    ap Number
    (summed (sum (write (number (value m i)) (fitted (element (sort_of a)) (value m v)) (value m a))) (number (read (number (value m i)) (value m a))) (sum (value m a)) (number (value m v))
    (sum_write (element (sort_of a)) (number (value m i)) (fitted (element (sort_of a)) (value m v)) (value m a) t.map t.zero_at_first
    ∙ ap (λ z. sum (value m a) +ℤ number z) (fitted_in m (element (sort_of a)) v w.new h)))

-- ---- the rows

rule_true : (m : Model) (i : Instance) → IsInstance i → AreTrueIn m (premises_of i) → IsTrueIn m (conclusion_of i)
rule_true m (AndLeft p q) i h = (both_true _ _ h.0).0
rule_true m (AndRight p q) i h = (both_true _ _ h.0).1
rule_true m (NoOrLeft p q) i h = (neither _ _ h.0).0
rule_true m (NoOrRight p q) i h = (neither _ _ h.0).1
rule_true m (NotHolds p) i h = not_true_is _ h.0
rule_true m (NotFails p) i h = not_false_is _ h.0
rule_true m (OrElseRight p q) i h = or_right _ _ h.0 h.1.0
rule_true m (OrElseLeft p q) i h = or_left _ _ h.0 h.1.0
rule_true m (NoAndRight p q) i h = andalso _ _ h.0 h.1.0
rule_true m (NoAndLeft p q) i h = and_left _ _ h.0 h.1.0
rule_true m (IteThen c p q) i h = ite_then (truth m c) (value m p) (value m q) true h.0 h.1.0
rule_true m (IteElse c p q) i h = ite_else (truth m c) (value m p) (value m q) true h.0 h.1.0
rule_true m (NoIteThen c p q) i h = ite_then (truth m c) (value m p) (value m q) false h.0 h.1.0
rule_true m (NoIteElse c p q) i h = ite_else (truth m c) (value m p) (value m q) false h.0 h.1.0
rule_true m (EqRight s p q) i h = same_flag (value m p) (value m q) s h.0 h.1.0
rule_true m (EqLeft s p q) i h = same_flag_back (value m p) (value m q) s h.0 h.1.0
rule_true m (UnequalRight s p q) i h =
    let f = both_true (is_claim (Eq p q)) (is_claim p && true) i.premises in
    unequal_flag m p q s (both_true (is_claim p) true f.1).0 i.conclusion h.0 h.1.0
rule_true m (UnequalLeft s p q) i h =
    let f = both_true (is_claim (Eq p q)) (is_claim q && true) i.premises in
    unequal_flag m q p s (both_true (is_claim q) true f.1).0 i.conclusion (unequal_turned m p q h.0) h.1.0
rule_true m (Itself a) i h = value_self (value m a)
rule_true m (Turned a b) i h = eq_claim m b a (sym (value_is (value m a) (value m b) h.0))
rule_true m (Through a b c) i h = eq_claim m a c (value_is (value m a) (value m b) h.0 ∙ value_is (value m b) (value m c) h.1.0)
rule_true m (Alike x ts us) i h = eq_claim m (App x ts) (App x us) (alike_true m x ts us (alike m ts us i.asked i.premises h))
rule_true m (Chosen c a b) i h = eq_claim m (Ite c a b) a (chosen (truth m c) (value m a) (value m b) h.0)
rule_true m (Passed c a b) i h = eq_claim m (Ite c a b) b (passed (truth m c) (value m a) (value m b) h.0)
rule_true m (ReadBack a i v) k h =
    let e = fits_eq (Sel (Sto a i v) i) v k.conclusion in
    eq_claim m (Sel (Sto a i v) i) v (read_back m a i v (fits_sel (Sto a i v) i e.left).map h)
rule_true m (ReadEqual a i j v) k h =
    let e = fits_eq (Sel (Sto a i v) j) v k.conclusion in
    eq_claim m (Sel (Sto a i v) j) v
    (ap (λ z. read (number z) (value m (Sto a i v))) (sym (value_is (value m i) (value m j) h.0)) ∙ read_back m a i v (fits_sel (Sto a i v) j e.left).map h.1)
rule_true m (ReadOther a i j v) k h =
    let e = fits_eq (Sel (Sto a i v) j) (Sel a j) k.conclusion in
    let w = fits_sel (Sto a i v) j e.left in
    let t = fits_sto a i v w.map in
    let c = both_true (is_claim (Eq i j)) true k.premises in
    eq_claim m (Sel (Sto a i v) j) (Sel a j)
    (read_other (number (value m i)) (number (value m j)) (fitted (element (sort_of a)) (value m v)) (value m a) (unequal_index m i j c.0 t.index_num w.index_num h.0))
rule_true m (ReadConst s v j) i h =
    let e = fits_eq (Sel (Const s v) j) v i.conclusion in
    eq_claim m (Sel (Const s v) j) v (fitted_in m (element s) v e.right h)
rule_true m (ReadWithin n a b j) i h =
    let e = fits_eq (Sel (Mix n a b) j) (Sel a j) i.conclusion in
    let w = fits_mix n a b (fits_sel (Mix n a b) j e.left).map in
    eq_claim m (Sel (Mix n a b) j) (Sel a j)
    (within (element (sort_of a)) (number (value m n)) (number (value m j)) (value m a) (value m b) (map_value m a w.first w.is_map)
    (subst (λ z. IsOf z (value m b)) (sym w.one_sort ∙ array_is (sort_of a) w.is_map) (value_of m b w.second))
    (lt_of_not (number (value m n)) (number (value m j)) h.0) (le_of (pos 0) (number (value m j)) h.1.0))
rule_true m (ReadAbove n a b j) i h =
    eq_claim m (Sel (Mix n a b) j) (Sel b j)
    (mixed_out (as_nat (number (value m n))) (number (value m j)) (value m a) (value m b) (not_below (number (value m n)) (number (value m j)) (le_of (number (value m n)) (number (value m j)) h.0)))
rule_true m (PartIs k s ts) i h =
    let e = fits_eq (Get k (Tup s ts)) (term_at k ts) i.conclusion in
    eq_claim m (Get k (Tup s ts)) (term_at k ts) (part_is m k s ts (one_args (GetNode k) (Tup s ts) e.left).0 h)
rule_true m (ReadBelow n a b j) i h =
    eq_claim m (Sel (Mix n a b) j) (Sel b j)
    (mixed_out (as_nat (number (value m n))) (number (value m j)) (value m a) (value m b) (not_negative (as_nat (number (value m n))) (number (value m j)) (lt_of_not (pos 0) (number (value m j)) h.0)))
rule_true m (AtLeast t) i h = at_least m (sort_of t) (value m t) i.asked (value_of m t (fits_le (least_lit (sort_of t)) t i.conclusion).right)
rule_true m (AtMost t) i h = at_most m (sort_of t) (value m t) i.asked (value_of m t (fits_le t (greatest_lit (sort_of t)) i.conclusion).left)
rule_true m (WrapsNot g n a) i h = eq_claim m (Wrap g n a) a (wraps_same m g n a (fits_eq (Wrap g n a) a i.conclusion).left h)
rule_true m (QuotientLow a d) i h = le_true _ _ (div_low (number (value m a)) d (at_least_one d i.asked) (le_of (pos 0) (number (value m a)) h.0))
rule_true m (QuotientHigh a d) i h = le_true _ _ (div_high (number (value m a)) d (at_least_one d i.asked) (le_of (pos 0) (number (value m a)) h.0))
rule_true m (QuotientHighNegative a d) i h = le_true _ _ (div_high_neg (number (value m a)) d (at_least_one d i.asked) (lt_of_not (pos 0) (number (value m a)) h.0))
rule_true m (QuotientLowNegative a d) i h = le_true _ _ (div_low_neg (number (value m a)) d (at_least_one d i.asked) (lt_of_not (pos 0) (number (value m a)) h.0))
rule_true m (RemainderIs a d) i h = eq_claim m (Mod a (Lit false d)) (Sub a (times d a)) (ap Number (rem_is (number (value m a)) d (at_least_one d i.asked)))
rule_true m (ProductOfHigh a b) i h = le_true _ _ (high_high (number (value m a)) (number (value m b)) (le_of (pos 0) (number (value m a)) h.0) (le_of (pos 0) (number (value m b)) h.1.0))
rule_true m (ProductOfLow a b) i h = le_true _ _ (low_low (number (value m a)) (number (value m b)) (le_of (number (value m a)) (pos 0) h.0) (le_of (number (value m b)) (pos 0) h.1.0))
rule_true m (ProductHighLow a b) i h = le_true _ _ (high_low (number (value m a)) (number (value m b)) (le_of (pos 0) (number (value m a)) h.0) (le_of (number (value m b)) (pos 0) h.1.0))
rule_true m (ProductLowHigh a b) i h = le_true _ _ (low_high (number (value m a)) (number (value m b)) (le_of (number (value m a)) (pos 0) h.0) (le_of (pos 0) (number (value m b)) h.1.0))
rule_true m (SumOfStore a i v) k h =
    let e = fits_eq (Sum (Sto a i v)) (Add (Sum a) (Sub v (Sel a i))) k.conclusion in
    eq_claim m (Sum (Sto a i v)) (Add (Sum a) (Sub v (Sel a i))) (store_summed m a i v k.asked e.left h)
rule_true m (SumOfNone s) i h = eq_claim m (Sum (Const s zero_lit)) zero_lit (ap Number (sum_of_none (fitted (element s) (Number (pos 0)))))
rule_true m (SumAtLeast a) i h =
    let q = both_true (is_plain a) (is_low (element (sort_of a))) i.asked in
    let t = summable m a q.0 (fits_sum a (fits_le zero_lit (Sum a) i.conclusion).right) in
    le_true (pos 0) (sum (value m a)) (sum_low (element (sort_of a)) (value m a) t.map t.zero_at_first (low_number (element (sort_of a)) q.1))
rule_true m (SumOverOne a i) k h =
    let q = both_true (is_plain a) (is_low (element (sort_of a))) k.asked in
    let t = summable m a q.0 (fits_sum a (fits_le (Sel a i) (Sum a) k.conclusion).right) in
    le_true (number (read (number (value m i)) (value m a))) (sum (value m a))
    (sum_over_one (element (sort_of a)) (number (value m i)) (value m a) t.map t.zero_at_first t.zero_fits (low_number (element (sort_of a)) q.1))
rule_true m (SumOverTwo a i j) k h =
    let q = both_true (is_plain a) (is_low (element (sort_of a))) k.asked in
    let l = fits_le (Add (Sel a i) (Sel a j)) (Sum a) k.conclusion in
    let t = summable m a q.0 (fits_sum a l.right) in
    let s = two_args AddNode (Sel a i) (Sel a j) l.left in
    let c = both_true (is_claim (Eq i j)) true k.premises in
    le_true (number (read (number (value m i)) (value m a)) +ℤ number (read (number (value m j)) (value m a))) (sum (value m a))
    (sum_over_two (element (sort_of a)) (number (value m i)) (number (value m j)) (value m a)
    (unequal_index m i j c.0 (fits_sel a i s.0).index_num (fits_sel a j s.1).index_num h.0)
    t.map t.zero_at_first t.zero_fits (low_number (element (sort_of a)) q.1))
rule_true m (Strict a b) i h =
    let l = fits_le b a i.conclusion in
    strict (value m a) (value m b) h.0 (num_value m a l.right l.right_num) (num_value m b l.left l.left_num) h.1.0
rule_true m (Between a b) i h =
    let c = both_true (is_claim (Le a b)) (is_claim (Le b a) && true) i.premises in
    let l = fits_le a b c.0 in
    eq_claim m a b (numbers_equal (value m a) (value m b) (num_value m a l.left l.left_num) (num_value m b l.right l.right_num) (between (number (value m a)) (number (value m b)) h.0 h.1.0))

pub rules_true : InstancesAreTrue
rules_true m i k h = rule_true m i k h
