-- Rows worked by hand.
use Rattle.std.proofs.Common.{ℕ, zero, suc, ◌<◌, ◌^◌, ◌⊎◌, inl, inr, Bool, true, false, cond, nat_eq, List, [], ◌∷◌, length, ◌≡◌, refl, sym, ap, ◌∙◌, subst, arith}
use Rattle.std.proofs.lemmas.Int.{ints}
use Rattle.std.proofs.Math.Nat.{le_of_dvd, pos_of_dvd_of_pos}
use Rattle.std.proofs.lemmas.Nat.Gcd.{dvd_refl, dvd-zero}
use Rattle.std.specs.Prelude.{Option, Some, slice_get, slice_index_or, unsigned_abs}
use Rattle.std.specs.List.{All, Contains}
use Rattle.std.specs.Int.{◌∣◌}
use lib.IntN.{ℤ, pos, negsuc, neg_ℤ, ◌+ℤ◌, ◌*ℤ◌}
use lib.Signed.{◌≤ℤ◌, ◌<ℤ◌}
use Rattle.sv_term.specs.Terms.{Term, Truth}
use Rattle.sv_num.specs.Range.{IsI128}
use Rattle.sv_log.specs.LogEntries.{Monomial, Row, Entry, AddTerm, AddFact, Linear, Combine, Divide, SplitOn, Cut, CloseAt, Clash, columns}
use Rattle.sv_log.specs.LogRows.{monomial, row, greatest, times_parts, Cancels, IsCombined, IsDivided}
use Rattle.sv_log.specs.Logs.{Item, Known, Bound, IsAbsurd, IsAccepted, IsAllowed}
use Rattle.sv_fraction.specs.Fractions.{Ratio, ratio, IsReduced}
use Rattle.sv_point.specs.NearestPoints.{AreBelow, IsMet, with_value, MeetsAt, IsAsNear}
use Rattle.sv_lin.specs.Eliminations.{holding, HasQuotient, HaveColumns, HaveNoAbsurd, made, AreOfRows, AreEntriesOn, IsContradiction, Placed, value_in, ListsColumns, IsNearestIn, AreSaturated, IsPoint, IsSpent, AreExceedingRows, IsExceedingValue, IsExcess}
use Rattle.sv_lin.specs.WorkedRows.{placed_zero, at_most_zero, at_least_one, twice_at_most_zero, into_one, at_most_the_border, large, small, WorkedRows}

-- ---- short lists

all_none : {A : Type 0} (P : A → Type 0) → All P []
all_none P k d l = absurd (omega (arith, l))

all_one : {A : Type 0} (P : A → Type 0) (x : A) → P x → All P (x ∷ [])
all_one P x h zero d l = h
all_one P x h (suc k) d l = absurd (omega (arith, l))

all_two : {A : Type 0} (P : A → Type 0) (x y : A) → P x → P y → All P (x ∷ y ∷ [])
all_two P x y h i zero d l = h
all_two P x y h i (suc zero) d l = i
all_two P x y h i (suc (suc k)) d l = absurd (omega (arith, l))

in_none : {A : Type 0} {C : Type 0} (x : A) → Contains [] x → C
in_none x c = absurd (let l = c.1 in omega (arith, l))

in_one : {A : Type 0} (y x : A) → Contains (y ∷ []) x → y ≡ x
in_one y x c = go c.0 c.1 c.2
  where
    go : (k : ℕ) → k < length (y ∷ []) → slice_index_or (y ∷ []) k x ≡ x → y ≡ x
    go zero l e = e
    go (suc k) l e = absurd (omega (arith, l))

in_two : {A : Type 0} (y z x : A) → Contains (y ∷ z ∷ []) x → (y ≡ x) ⊎ (z ≡ x)
in_two y z x c = go c.0 c.1 c.2
  where
    go : (k : ℕ) → k < length (y ∷ z ∷ []) → slice_index_or (y ∷ z ∷ []) k x ≡ x → (y ≡ x) ⊎ (z ≡ x)
    go zero l e = inl e
    go (suc zero) l e = inr e
    go (suc (suc k)) l e = absurd (omega (arith, l))

first_in : {A : Type 0} (x : A) (xs : List A) → Contains (x ∷ xs) x
first_in x xs = (0, omega arith, refl)

second_in : {A : Type 0} (y x : A) (xs : List A) → Contains (y ∷ x ∷ xs) x
second_in y x xs = (1, omega arith, refl)

-- ---- x <= 0 and 1 - x <= 0

small_range : (z : ℤ) → negsuc 9 ≤ℤ z → z ≤ℤ pos 9 → IsI128 z
small_range z h k = (omega (arith, ints), omega (arith, ints))

cancels_one : Cancels (pos 1) (pos 1) (pos 1) (negsuc 0)
cancels_one = record {
  opposite = omega (arith, ints);
  first = omega (arith, ints);
  second = omega (arith, ints);
  zero_sum = refl;
  least = λ i j a b e. (omega (arith, ints), omega (arith, ints));
}

is_one : IsCombined (pos 1) at_most_zero (pos 1) at_least_one (row (pos 1) [])
is_one = record {
  cancels = (monomial (pos 1) 0, monomial (negsuc 0) 0, refl, refl, refl, cancels_one);
  multiples = (
    (small_range (pos 0) (omega (arith, ints)) (omega (arith, ints)), all_one (λ p. IsI128 p.factor) (monomial (pos 1) 0) (small_range (pos 1) (omega (arith, ints)) (omega (arith, ints)))),
    (small_range (pos 1) (omega (arith, ints)) (omega (arith, ints)), all_one (λ p. IsI128 p.factor) (monomial (negsuc 0) 0) (small_range (negsuc 0) (omega (arith, ints)) (omega (arith, ints)))),
  );
  fits = (small_range (pos 1) (omega (arith, ints)) (omega (arith, ints)), all_none (λ p. IsI128 p.factor));
  is = refl;
}

abbrev constant_of : Item → ℤ
constant_of (Known f) = pos 0
constant_of (Bound r) = r.constant

abbrev size_of : Item → ℕ
size_of (Known f) = 0
size_of (Bound r) = length r.parts

one_is_new : Contains (Bound at_most_zero ∷ Bound at_least_one ∷ []) (Bound (row (pos 1) [])) → ⊥
one_is_new c = elim (in_two (Bound at_most_zero) (Bound at_least_one) (Bound (row (pos 1) [])) c) [
  | inl e ↦ let d : pos 0 ≡ pos 1 = ap constant_of e in cc d
  | inr e ↦ let d : 1 ≡ 0 = ap size_of e in absurd (omega (arith, d))
]

one_allowed : (ts : List Term) → IsAllowed (holding ts (at_most_zero ∷ at_least_one ∷ [])) (Combine (pos 1) 0 (pos 1) 1 (row (pos 1) []))
one_allowed ts = record {
  timely = refl;
  terms = all_none (λ n. n < length ts);
  items = all_two (λ n. n < 2) 0 1 (omega arith) (omega arith);
  fitting = tt;
  new = one_is_new;
  given = tt;
  stated = (at_most_zero, at_least_one, refl, refl, is_one);
  branching = tt;
}

entries_one : AreEntriesOn (at_most_zero ∷ at_least_one ∷ []) into_one
entries_one = record {
  of_rows = tt;
  accepted = λ ts h. (one_allowed ts, tt);
  no_absurd = λ r c. in_none r c;
}

contradict : IsContradiction (at_most_zero ∷ at_least_one ∷ []) into_one
contradict = record {
  entries = entries_one;
  row = row (pos 1) [];
  absurd = (refl, omega (arith, ints));
  place = inr ([], refl);
}

not_absurd : (r p : Row) (n : ℕ) → p ≡ r → (length p.parts ≡ suc n) → IsAbsurd (Bound r) → ⊥
not_absurd r p n e l a = let d : length r.parts ≡ suc n = subst (λ (x : Row). length x.parts ≡ suc n) e l in let f : length r.parts ≡ 0 = ap length a.0 in omega (arith, d, f)

none_absurd : HaveNoAbsurd (at_most_zero ∷ at_least_one ∷ [])
none_absurd r c a = elim (in_two at_most_zero at_least_one r c) [ inl e ↦ not_absurd r at_most_zero 0 e refl a | inr e ↦ not_absurd r at_least_one 0 e refl a ]

spent : IsSpent (at_most_zero ∷ at_least_one ∷ []) 1 into_one
spent = record { entries = entries_one; reached = omega arith; before = omega arith; given = none_absurd }

-- x is at most 0 and at least 1
both_met : (f : Ratio) → pos 0 <ℤ f.under → ((pos 0 *ℤ f.under +ℤ (pos 1 *ℤ f.top) *ℤ pos 1) ≤ℤ pos 0) → ((pos 1 *ℤ f.under +ℤ (negsuc 0 *ℤ f.top) *ℤ pos 1) ≤ℤ pos 0) → ⊥
both_met f p h k = omega (arith, ints)

no_point : (es : List Entry) (ps : List Placed) → IsPoint (at_most_zero ∷ at_least_one ∷ []) es ps → ⊥
no_point es ps h =
    both_met (value_in ps 0) (h.nearest 0).0.positive (h.meets at_most_zero (first_in at_most_zero (at_least_one ∷ []))) (h.meets at_least_one (second_in at_most_zero at_least_one []))

-- ---- a row with the number 1 has no quotient

no_division : (d : ℤ) (r t : Row) (x : ℕ) (ps : List Monomial) → r.parts ≡ monomial (pos 1) x ∷ ps → IsDivided d r t → ⊥
no_division d r t x ps e i = go t.parts (sym e ∙ i.parts)
  where
    two : (d k : ℤ) → pos 2 ≤ℤ d → pos 1 ≡ d *ℤ k → ⊥
    two (negsuc d) k h e = omega (arith, ints)
    two (pos zero) k h e = omega (arith, ints)
    two (pos (suc zero)) k h e = omega (arith, ints)
    two (pos (suc (suc d))) (pos zero) h e = omega (arith, ints, e)
    two (pos (suc (suc d))) (pos (suc k)) h e = omega (arith, ints, e)
    two (pos (suc (suc d))) (negsuc k) h e = omega (arith, ints, e)

    front : List Monomial → ℤ
    front [] = pos 0
    front (p ∷ ps) = p.factor

    go : (ts : List Monomial) → monomial (pos 1) x ∷ ps ≡ times_parts d ts → ⊥
    go [] e = cc e
    go (p ∷ ts) e = two d p.factor i.more (ap front e)

undivided : (rows : List Row) (r s : Row) (x : ℕ) (ps : List Monomial) → r.parts ≡ monomial (pos 1) x ∷ ps → r ≡ s → HasQuotient rows s
undivided rows r s x ps e f d t g k h = absurd (no_division (pos d) s t x ps (ap (λ (u : Row). u.parts) (sym f) ∙ e) h)

-- ---- x <= 0

pub zero_reduced : IsReduced (ratio (pos 0) (pos 1))
zero_reduced = record { positive = omega (arith, ints); lowest = λ d a b. one d b }
  where
    one : (d : ℕ) → d ∣ 1 → d ≡ 1
    one zero b = absurd (let l = pos_of_dvd_of_pos b (omega arith) in omega (arith, l))
    one (suc d) b = let l = le_of_dvd (omega arith) b in omega (arith, l)

abbrev zeros : ℕ → Ratio
zeros = value_in (placed_zero ∷ [])

zeros_are : (x : ℕ) → zeros x ≡ ratio (pos 0) (pos 1)
zeros_are x = go (nat_eq x 0)
  where
    go : (b : Bool) → cond b (ratio (pos 0) (pos 1)) (ratio (pos 0) (pos 1)) ≡ ratio (pos 0) (pos 1)
    go true = refl
    go false = refl

with_zero : (x y : ℕ) → with_value zeros x (zeros x) y ≡ ratio (pos 0) (pos 1)
with_zero x y = go (nat_eq y x)
  where
    go : (b : Bool) → cond b (zeros x) (zeros y) ≡ ratio (pos 0) (pos 1)
    go true = zeros_are x
    go false = zeros_are y

met_at_zero : (f : Ratio) → f ≡ ratio (pos 0) (pos 1) → (pos 0 *ℤ f.under +ℤ (pos 1 *ℤ f.top) *ℤ pos 1) ≤ℤ pos 0
met_at_zero f e = subst (λ (g : Ratio). (pos 0 *ℤ g.under +ℤ (pos 1 *ℤ g.top) *ℤ pos 1) ≤ℤ pos 0) (sym e) (omega (arith, ints))

zero_meets : (x : ℕ) → MeetsAt (at_most_zero ∷ []) zeros x (zeros x)
zero_meets x k r c t = subst (IsMet (with_value zeros x (zeros x))) (in_one at_most_zero r c) (met_at_zero (with_value zeros x (zeros x) 0) (with_zero x 0))

nearest_zero : (e f : Ratio) → e ≡ ratio (pos 0) (pos 1) → IsAsNear e f
nearest_zero e f h = subst (λ g. IsAsNear g f) (sym h) (above (unsigned_abs f.top) f.under)
  where
    above : (n : ℕ) (u : ℤ) → (pos 0 *ℤ u) ≤ℤ (pos n *ℤ pos 1)
    above n u = omega (arith, ints)

nearest_at : (x : ℕ) → IsNearestIn (at_most_zero ∷ []) zeros x
nearest_at x = (
  subst IsReduced (sym (zeros_are x)) zero_reduced,
  record { meets = zero_meets x; nearest = λ f p m. nearest_zero (zeros x) f (zeros_are x) },
)

own_sign : (k : ℤ) → (k *ℤ k) <ℤ pos 0 → ⊥
own_sign (pos k) h = omega (arith, ints)
own_sign (negsuc k) h = omega (arith, ints)

saturated_alone : (p : Row) → AreSaturated (p ∷ [])
saturated_alone p m n r s t c d i =
    let e : r ≡ s = sym (in_one p r c) ∙ in_one p s d in
    let f : i.cancels.0 ≡ i.cancels.1 = same_some i.cancels.0 i.cancels.1 (greatest r.parts) (greatest s.parts) (ap (λ (x : Row). greatest x.parts) e) i.cancels.2 i.cancels.3 in
    absurd (own_sign i.cancels.1.factor (subst (λ (x : Monomial). (x.factor *ℤ i.cancels.1.factor) <ℤ pos 0) f i.cancels.5.opposite))
  where
    same_some : (p q : Monomial) (o u : Option Monomial) → o ≡ u → o ≡ Some p → u ≡ Some q → p ≡ q
    same_some p q o u g e f = cc

lists_zero : ListsColumns (at_most_zero ∷ []) (λ x. Unit {0}) (placed_zero ∷ [])
lists_zero = record {
  rising = (omega arith, tt);
  each = λ x. (
    λ c. ((at_most_zero, first_in at_most_zero [], c), tt),
    λ d. subst (λ (r : Row). Contains (columns r.parts) x) (sym (in_one at_most_zero d.0.0 d.0.1)) d.0.2,
  );
}

point : IsPoint (at_most_zero ∷ []) [] (placed_zero ∷ [])
point = record {
  entries = record { of_rows = tt; accepted = λ ts h. tt; no_absurd = λ r c. in_none r c };
  saturated = saturated_alone at_most_zero;
  divided = λ r c. undivided (at_most_zero ∷ []) at_most_zero r 0 [] refl (in_one at_most_zero r c);
  lists = lists_zero;
  nearest = nearest_at;
  meets = λ r c. subst (IsMet zeros) (in_one at_most_zero r c) (met_at_zero (zeros 0) (zeros_are 0));
}

-- ---- 2 x <= 0

halved : IsDivided (pos 2) twice_at_most_zero at_most_zero
halved = record { more = omega (arith, ints); parts = refl; above = omega (arith, ints); below = omega (arith, ints) }

not_undivided : (ps : List Placed) → IsPoint (twice_at_most_zero ∷ []) [] ps → ⊥
not_undivided ps h =
    let c = h.divided twice_at_most_zero (first_in twice_at_most_zero []) 2 at_most_zero
    (record { divides = (dvd_refl 2, tt); greatest = λ e d. d.0 })
    (small_range (pos 2) (omega (arith, ints)) (omega (arith, ints))) halved in
    let e : pos 2 ≡ pos 1 = ap first_factor (in_one twice_at_most_zero at_most_zero c) in
    cc e
  where
    first_of : List Monomial → ℤ
    first_of [] = pos 0
    first_of (p ∷ ps) = p.factor

    first_factor : Row → ℤ
    first_factor r = first_of r.parts

not_left_out : (es : List Entry) → IsPoint (at_most_zero ∷ []) es [] → ⊥
not_left_out es h = in_none 0 ((h.lists.each 0).1 ((at_most_zero, first_in at_most_zero [], first_in 0 []), tt))

-- ---- no entry is accepted after x <= 0

no_combination : (m n : ℤ) (r s t : Row) → r ≡ at_most_zero → s ≡ at_most_zero → IsCombined m r n s t → ⊥
no_combination m n r s t e f i =
    let p : i.cancels.0 ≡ monomial (pos 1) 0 = same i.cancels.0 (monomial (pos 1) 0) (greatest r.parts) i.cancels.2 (ap (λ (x : Row). greatest x.parts) e) in
    let q : i.cancels.1 ≡ monomial (pos 1) 0 = same i.cancels.1 (monomial (pos 1) 0) (greatest s.parts) i.cancels.3 (ap (λ (x : Row). greatest x.parts) f) in
    let o : (pos 1 *ℤ pos 1) <ℤ pos 0 = subst (λ (x : Monomial). (x.factor *ℤ pos 1) <ℤ pos 0) p (subst (λ (y : Monomial). (i.cancels.0.factor *ℤ y.factor) <ℤ pos 0) q i.cancels.5.opposite) in
    omega (arith, ints, o)
  where
    same : (p q : Monomial) (o : Option Monomial) → o ≡ Some p → o ≡ Some q → p ≡ q
    same p q o e f = cc

abbrev bound_of : Item → Row
bound_of (Known f) = row (pos 0) []
bound_of (Bound r) = r

only_item : (p : ℕ) (r : Row) → slice_get (Bound at_most_zero ∷ []) p ≡ Some (Bound r) → r ≡ at_most_zero
only_item zero r e = let d : Bound at_most_zero ≡ Bound r = cc e in sym (ap bound_of d)
only_item (suc p) r e = cc e

abbrev one_term : List Term
one_term = Truth false ∷ []

columns_there : HaveColumns 1 (at_most_zero ∷ [])
columns_there r c = subst (λ (x : Row). AreBelow 1 x.parts) (in_one at_most_zero r c) (omega arith, tt)

no_entries : (es : List Entry) → AreEntriesOn (at_most_zero ∷ []) es → es ≡ []
no_entries es h = go es h.of_rows (h.accepted one_term columns_there)
  where
    go : (es : List Entry) → AreOfRows es → IsAccepted (holding one_term (at_most_zero ∷ [])) es → es ≡ []
    go [] o a = refl
    go (Combine m p n q r ∷ es) o a =
        let t = a.0.stated in absurd (no_combination m n t.0 t.1 r (only_item p t.0 t.2) (only_item q t.1 t.3) t.4)
    go (Divide d p r ∷ es) o a = let t = a.0.stated in absurd (no_division d t.0 r 0 [] (ap (λ (u : Row). u.parts) (only_item p t.0 t.1)) t.2)
    go (AddTerm node ∷ es) o a = absurd o
    go (AddFact rule sign n from ∷ es) o a = absurd o
    go (Linear p forward r ∷ es) o a = absurd o
    go (SplitOn n ∷ es) o a = absurd o
    go (Cut ∷ es) o a = absurd o
    go (CloseAt p ∷ es) o a = absurd o
    go (Clash p q ∷ es) o a = absurd o

abbrev minus_one : ℕ → Ratio
minus_one = value_in (record { column = 0; value = ratio (negsuc 0) (pos 1) } ∷ [])

zero_meets_alone : MeetsAt (at_most_zero ∷ []) minus_one 0 (ratio (pos 0) (pos 1))
zero_meets_alone k r c t = subst (IsMet (with_value minus_one 0 (ratio (pos 0) (pos 1)))) (in_one at_most_zero r c) (met_at_zero (ratio (pos 0) (pos 1)) refl)

not_nearest : (es : List Entry) → IsPoint (at_most_zero ∷ []) es (record { column = 0; value = ratio (negsuc 0) (pos 1) } ∷ []) → ⊥
not_nearest es h =
    let n = (h.nearest 0).1.nearest (ratio (pos 0) (pos 1)) (omega (arith, ints))
    (subst (λ (fs : List Entry). MeetsAt (at_most_zero ∷ made fs) minus_one 0 (ratio (pos 0) (pos 1))) (sym (no_entries es h.entries)) zero_meets_alone) in
    omega (arith, ints, n)

-- ---- numbers that are too large

border_reduced : IsReduced (ratio (neg_ℤ (pos (2 ^ 127))) (pos 1))
border_reduced = record { positive = omega (arith, ints); lowest = λ d a b. zero_reduced.lowest d (dvd-zero d) b }

value : IsExceedingValue (at_most_the_border ∷ []) [] 0 []
value = record {
  row = at_most_the_border;
  is = refl;
  exceeds = record {
    column = 0;
    factor = pos 1;
    row_of = record { lows = []; is = refl; below = tt };
    exceeds = inr (ratio (neg_ℤ (pos (2 ^ 127))) (pos 1), refl, inr (inr (omega (arith, ints), ratio (neg_ℤ (pos (2 ^ 127))) (pos 1), border_reduced, refl, λ h. omega (arith, ints, h.1))));
  };
  lists = record { rising = tt; each = λ x. (λ c. in_none x c, λ d. absurd (let l = d.1 in omega (arith, l))) };
  nearest = λ x l. absurd (omega (arith, l));
}

cancels_six : Cancels (pos 2) (pos 3) (pos 3) (negsuc 1)
cancels_six = record {
  opposite = omega (arith, ints);
  first = omega (arith, ints);
  second = omega (arith, ints);
  zero_sum = refl;
  least = λ i j a b e. (omega (arith, ints), omega (arith, ints));
}

exceeding : AreExceedingRows (large ∷ small ∷ []) 0 1
exceeding = record {
  first = large;
  second = small;
  is_first = refl;
  is_second = refl;
  exceeds = record {
    column = 1;
    first = pos 3;
    second = negsuc 1;
    of_first = record { lows = monomial (pos 1) 0 ∷ []; is = refl; below = (omega arith, tt) };
    of_second = record { lows = monomial (pos 1) 0 ∷ []; is = refl; below = (omega arith, tt) };
    m = pos 2;
    n = pos 3;
    cancels = cancels_six;
    exceeds = λ h. let l = h.2.0.1 in omega (arith, ints, l);
  };
}

excess : IsExcess (large ∷ small ∷ []) []
excess = record {
  entries = record { of_rows = tt; accepted = λ ts h. tt; no_absurd = λ r c. in_none r c };
  divided = λ r c. elim (in_two large small r c) [
    | inl e ↦ undivided (large ∷ small ∷ []) large r 0 (monomial (pos 3) 1 ∷ []) refl e
    | inr e ↦ undivided (large ∷ small ∷ []) small r 0 (monomial (negsuc 1) 1 ∷ []) refl e
  ];
  none = λ r c a. elim (in_two large small r c) [ inl e ↦ not_absurd r large 1 e refl a | inr e ↦ not_absurd r small 1 e refl a ];
}

pub worked : WorkedRows
worked = record {
  contradict = contradict;
  no_point = no_point;
  spent = spent;
  point = point;
  not_nearest = not_nearest;
  not_undivided = not_undivided;
  not_left_out = not_left_out;
  value = value;
  exceeding = exceeding;
  excess = excess;
}
