-- Combining each two rows in one order is enough: the least multipliers are one, and a sum doesn't depend on the order.
use Rattle.std.proofs.Common.{ℕ, zero, suc, ◌+◌, ◌<◌, ◌≤◌, ◌⊎◌, inl, inr, Bool, true, false, cond, List, [], ◌∷◌, ◌++◌, length, ◌≡◌, refl, sym, ap, ap₂, ◌∙◌, subst, arith}
use Rattle.std.proofs.lemmas.Int.{ints}
use Rattle.std.proofs.lemmas.Bool.Decides.{Decides-eqb}
use Rattle.std.specs.Prelude.{Option, Some}
use Rattle.std.specs.List.{Contains}
use lib.IntN.{ℤ, pos, negsuc, ◌+ℤ◌, ◌*ℤ◌, *ℤ_comm}
use lib.Signed.{◌≤ℤ◌, ◌<ℤ◌}
use Rattle.sv_log.specs.LogEntries.{Monomial, Row}
use Rattle.sv_log.specs.LogRows.{monomial, row, is_zero, with_part, with_parts, times_parts, times, sum_of, greatest, Cancels, IsCombined}
use Rattle.sv_point.specs.NearestPoints.{AreBelow, IsRowOf}
use Rattle.sv_row.specs.RowParts.{AreAbove, AreRising, AreNonZero}
use Rattle.sv_row.specs.SumSteps.{part}
use Rattle.sv_row.proofs.Sums.{above_more, front, past_all, onto, above_parts, above_times}
use Rattle.sv_lin.specs.Eliminations.{IsNormalRow, AreNormal}
use Rattle.sv_lin.specs.Completeness.{AreComplete, CompleteAreSaturated}

-- ---- a sum in either order

zero_is : (k : ℤ) → is_zero k ≡ true → k ≡ pos 0
zero_is (pos n) e = ap pos ((Decides-eqb n 0).0 e)
zero_is (negsuc n) e = cc e

kept : (p : Monomial) (ps : List Monomial) → (p.factor ≡ pos 0 → ⊥) → part p.factor p.column ++ ps ≡ p ∷ ps
kept p ps h = go (is_zero p.factor) refl
  where
    go : (b : Bool) → is_zero p.factor ≡ b → cond b [] (monomial p.factor p.column ∷ []) ++ ps ≡ p ∷ ps
    go true e = absurd (h (zero_is p.factor e))
    go false e = refl

with_none : (ps : List Monomial) → AreRising ps → AreNonZero ps → with_parts ps [] ≡ ps
with_none [] a n = refl
with_none (p ∷ ps) a n = ap (with_part p.factor p.column) (with_none ps a.1 n.1) ∙ (front p.factor p.column ps a.0 ∙ kept p ps n.0)

order : (x y : ℕ) → (x < y) ⊎ ((x ≡ y) ⊎ (y < x))
order zero zero = inr (inl refl)
order zero (suc y) = inl (omega arith)
order (suc x) zero = inr (inr (omega arith))
order (suc x) (suc y) = elim (order x y) [ inl a ↦ inl (omega (arith, a)) | inr b ↦ elim b [ inl e ↦ inr (inl (ap suc e)) | inr c ↦ inr (inr (omega (arith, c))) ] ]

-- the lesser column comes first, on the left or on the right
lesser_left : (p : Monomial) (ps qs : List Monomial) → AreAbove p.column ps → AreAbove p.column qs → (p.factor ≡ pos 0 → ⊥) → with_parts (p ∷ ps) qs ≡ p ∷ with_parts ps qs
lesser_left p ps qs a b n = front p.factor p.column (with_parts ps qs) (above_parts p.column ps qs a b) ∙ kept p (with_parts ps qs) n

swapped : (k l : ℤ) → k +ℤ l ≡ l +ℤ k
swapped k l = omega (arith, ints)

commuted : (n : ℕ) (ps qs : List Monomial) → length ps + length qs ≤ n → AreRising ps → AreNonZero ps → AreRising qs → AreNonZero qs → with_parts ps qs ≡ with_parts qs ps
commuted n [] qs l a b c d = sym (with_none qs c d)
commuted n (p ∷ ps) [] l a b c d = with_none (p ∷ ps) a b
commuted zero (p ∷ ps) (q ∷ qs) l a b c d = absurd (omega (arith, l))
commuted (suc n) (p ∷ ps) (q ∷ qs) l a b c d = by_order (order p.column q.column) (commuted n ps (q ∷ qs) (omega (arith, l)) a.1 b.1 c d) (commuted n (p ∷ ps) qs (omega (arith, l)) a b c.1 d.1) (commuted n ps qs (omega (arith, l)) a.1 b.1 c.1 d.1)
  where
    by_order : (p.column < q.column) ⊎ ((p.column ≡ q.column) ⊎ (q.column < p.column))
        → with_parts ps (q ∷ qs) ≡ with_parts (q ∷ qs) ps → with_parts (p ∷ ps) qs ≡ with_parts qs (p ∷ ps) → with_parts ps qs ≡ with_parts qs ps
        → with_parts (p ∷ ps) (q ∷ qs) ≡ with_parts (q ∷ qs) (p ∷ ps)
    by_order (inl h) e f g =
        lesser_left p ps (q ∷ qs) a.0 (h, above_more p.column q.column qs h c.0) b.0
        ∙ (ap (λ z. p ∷ z) e ∙ sym (past_all (q ∷ qs) p ps (h, above_more p.column q.column qs h c.0)))
    by_order (inr (inr h)) e f g =
        past_all (p ∷ ps) q qs (h, above_more q.column p.column ps h a.0)
        ∙ (ap (λ z. q ∷ z) f ∙ sym (lesser_left q qs (p ∷ ps) c.0 (h, above_more q.column p.column ps h a.0) d.0))
    by_order (inr (inl h)) e f g =
        ap (with_part p.factor p.column) (past_all ps q qs (subst (λ x. AreAbove x ps) h a.0))
        ∙ (onto p.factor p.column q (with_parts ps qs) h
        ∙ (ap₂ (λ z w. z ++ w) (ap₂ part (swapped p.factor q.factor) h) g
        ∙ (sym (onto q.factor q.column p (with_parts qs ps) (sym h))
        ∙ sym (ap (with_part q.factor q.column) (past_all qs p ps (subst (λ x. AreAbove x qs) (sym h) c.0))))))

rising_times : (m : ℤ) (ps : List Monomial) → AreRising ps → AreRising (times_parts m ps)
rising_times m [] a = tt
rising_times m (p ∷ ps) a = (above_times p.column m ps a.0, rising_times m ps a.1)

product_not_zero : (m k : ℤ) → pos 0 <ℤ m → (k ≡ pos 0 → ⊥) → m *ℤ k ≡ pos 0 → ⊥
product_not_zero (negsuc m) k h n e = absurd (omega (arith, ints))
product_not_zero (pos zero) k h n e = absurd (omega (arith, ints))
product_not_zero (pos (suc m)) (pos zero) h n e = n refl
product_not_zero (pos (suc m)) (pos (suc k)) h n e = absurd (omega (arith, ints, e))
product_not_zero (pos (suc m)) (negsuc k) h n e = absurd (omega (arith, ints, e))

non_zero_times : (m : ℤ) (ps : List Monomial) → pos 0 <ℤ m → AreNonZero ps → AreNonZero (times_parts m ps)
non_zero_times m [] h n = tt
non_zero_times m (p ∷ ps) h n = (product_not_zero m p.factor h n.0, non_zero_times m ps h n.1)

sum_swapped : (m n : ℤ) (r s : Row) → pos 0 <ℤ m → pos 0 <ℤ n → IsNormalRow r → IsNormalRow s → sum_of (times m r) (times n s) ≡ sum_of (times n s) (times m r)
sum_swapped m n r s h i f g =
    ap₂ row (swapped (m *ℤ r.constant) (n *ℤ s.constant))
    (commuted (length (times_parts m r.parts) + length (times_parts n s.parts)) (times_parts m r.parts) (times_parts n s.parts) (omega arith)
    (rising_times m r.parts f.rising) (non_zero_times m r.parts h f.non_zero) (rising_times n s.parts g.rising) (non_zero_times n s.parts i g.non_zero))

-- ---- the greatest column

above_greatest : (x : ℕ) (ps : List Monomial) (p : Monomial) → AreAbove x ps → greatest ps ≡ Some p → x < p.column
above_greatest x [] p a e = cc e
above_greatest x (q ∷ []) p a e = let d : q ≡ p = cc e in subst (λ (y : Monomial). x < y.column) d a.0
above_greatest x (q ∷ s ∷ ps) p a e = above_greatest x (s ∷ ps) p a.1 e

-- the parts before the greatest
pub before_greatest : (ps : List Monomial) (p : Monomial) → AreRising ps → greatest ps ≡ Some p → (lows : List Monomial) × (ps ≡ lows ++ p ∷ []) × AreBelow p.column lows
before_greatest [] p a e = cc e
before_greatest (q ∷ []) p a e = ([], ap (λ z. z ∷ []) (cc e), tt)
before_greatest (q ∷ s ∷ ps) p a e =
    let d = before_greatest (s ∷ ps) p a.1 e in
    (q ∷ d.0, ap (λ z. q ∷ z) d.1, (above_greatest q.column (s ∷ ps) p a.0 e, d.2))

row_of : (r : Row) (p : Monomial) → IsNormalRow r → greatest r.parts ≡ Some p → IsRowOf p.column p.factor r
row_of r p f e = let d = before_greatest r.parts p f.rising e in record { lows = d.0; is = d.1; below = d.2 }

-- ---- the least multipliers are one

same_order : (a b : ℤ) → a ≤ℤ b → b ≤ℤ a → a ≡ b
same_order a b h i = omega (arith, ints)

one : (m n i j k l : ℤ) → Cancels m n k l → Cancels i j k l → (m ≡ i) × (n ≡ j)
one m n i j k l c d =
    let a = c.least i j d.first d.second d.zero_sum in
    let b = d.least m n c.first c.second c.zero_sum in
    (same_order m i a.0 b.0, same_order n j a.1 b.1)

turned : (m n k l : ℤ) → Cancels m n k l → Cancels n m l k
turned m n k l c = record {
  opposite = subst (λ z. z <ℤ pos 0) (*ℤ_comm k l) c.opposite;
  first = c.second;
  second = c.first;
  zero_sum = swapped (n *ℤ l) (m *ℤ k) ∙ c.zero_sum;
  least = λ i j a b e. let d = c.least j i b a (swapped (j *ℤ k) (i *ℤ l) ∙ e) in (d.1, d.0);
}

same_some : (p q : Monomial) (o : Option Monomial) → o ≡ Some p → o ≡ Some q → p ≡ q
same_some p q o e f = cc

-- what two rows make is one row
pub one_sum : (m n i j : ℤ) (r s t u : Row) → IsCombined m r n s t → IsCombined i r j s u → u ≡ t
one_sum m n i j r s t u c d =
    let p : d.cancels.0 ≡ c.cancels.0 = same_some d.cancels.0 c.cancels.0 (greatest r.parts) d.cancels.2 c.cancels.2 in
    let q : d.cancels.1 ≡ c.cancels.1 = same_some d.cancels.1 c.cancels.1 (greatest s.parts) d.cancels.3 c.cancels.3 in
    let e = one m n i j c.cancels.0.factor c.cancels.1.factor c.cancels.5
    (subst (λ (x : Monomial). Cancels i j x.factor c.cancels.1.factor) p (subst (λ (y : Monomial). Cancels i j d.cancels.0.factor y.factor) q d.cancels.5)) in
    d.is ∙ (ap₂ (λ a b. sum_of (times a r) (times b s)) (sym e.0) (sym e.1) ∙ sym c.is)

turned_combined : (m n : ℤ) (r s t : Row) → IsNormalRow r → IsNormalRow s → IsCombined m r n s t → IsCombined n s m r t
turned_combined m n r s t f g c = record {
  cancels = (c.cancels.1, c.cancels.0, c.cancels.3, c.cancels.2, sym c.cancels.4, turned m n c.cancels.0.factor c.cancels.1.factor c.cancels.5);
  multiples = (c.multiples.1, c.multiples.0);
  fits = c.fits;
  is = c.is ∙ sum_swapped m n r s c.cancels.5.first c.cancels.5.second f g;
}

signs : (k l : ℤ) → (k *ℤ l) <ℤ pos 0 → ((pos 0 <ℤ k) × (l <ℤ pos 0)) ⊎ ((pos 0 <ℤ l) × (k <ℤ pos 0))
signs (pos zero) (pos l) h = absurd (omega (arith, ints))
signs (pos zero) (negsuc l) h = absurd (omega (arith, ints))
signs (pos (suc k)) (pos l) h = absurd (omega (arith, ints))
signs (pos (suc k)) (negsuc l) h = inl (omega (arith, ints), omega (arith, ints))
signs (negsuc k) (pos zero) h = absurd (omega (arith, ints))
signs (negsuc k) (pos (suc l)) h = inr (omega (arith, ints), omega (arith, ints))
signs (negsuc k) (negsuc l) h = absurd (omega (arith, ints))

module _ (rows : List Row) (normal : AreNormal rows) (complete : AreComplete rows) where
  positive_first : (m n : ℤ) (r s t : Row) → Contains rows r → Contains rows s → (c : IsCombined m r n s t) → pos 0 <ℤ c.cancels.0.factor → c.cancels.1.factor <ℤ pos 0 → Contains rows t
  positive_first m n r s t i j c h k =
      let d = complete c.cancels.0.column c.cancels.0.factor c.cancels.1.factor r s i j (row_of r c.cancels.0 (normal r i) c.cancels.2)
      (subst (λ x. IsRowOf x c.cancels.1.factor s) (sym c.cancels.4) (row_of s c.cancels.1 (normal s j) c.cancels.3)) h k in
      subst (Contains rows) (one_sum m n d.0 d.1 r s t d.2 c d.3) d.4

  pub saturated : (m n : ℤ) (r s t : Row) → Contains rows r → Contains rows s → IsCombined m r n s t → Contains rows t
  unfolding turned_combined
  saturated m n r s t i j c = elim (signs c.cancels.0.factor c.cancels.1.factor c.cancels.5.opposite) [
    | inl a ↦ positive_first m n r s t i j c a.0 a.1
    | inr b ↦ positive_first n m s r t j i (turned_combined m n r s t (normal r i) (normal s j) c) b.0 b.1
  ]

pub complete_saturated : CompleteAreSaturated
complete_saturated rows f c = saturated rows f c
