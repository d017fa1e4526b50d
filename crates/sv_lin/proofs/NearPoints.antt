-- The nearest point, column by column: what is chosen between the bounds is the nearest.
use Rattle.std.proofs.Common.{ℕ, zero, suc, ◌*◌, ◌<◌, ◌⊎◌, inl, inr, Bool, true, false, cond, nat_eq, List, [], ◌∷◌, ◌++◌, map, length, ◌≡◌, refl, sym, ap, ap₂, ◌∙◌, subst, arith}
use Rattle.std.proofs.lemmas.Int.{ints}
use Rattle.std.proofs.lemmas.Bool.Decides.{Decides-eqb}
use Rattle.std.proofs.lemmas.Option.{slice_get_within}
use Rattle.std.specs.List.{Contains}
use Rattle.std.specs.Prelude.{Option, None, Some, slice_get, unsigned_abs}
use lib.IntN.{ℤ, pos, negsuc, neg_ℤ, ◌+ℤ◌, ◌*ℤ◌, *ℤ_comm}
use lib.Signed.{◌≤ℤ◌, ◌<ℤ◌}
use Rattle.sv_log.specs.LogEntries.{Monomial, Row}
use Rattle.sv_log.specs.LogRows.{monomial, greatest, times, sum_of}
use Rattle.sv_fraction.specs.Fractions.{Ratio, ratio, IsReduced, IsSame, sum_with}
use Rattle.sv_lin.proofs.ByHand.{zero_reduced}
use Rattle.sv_fraction.proofs.Integers.{negated_right, multiplied, cancelled, positive_is}
use Rattle.sv_point.specs.NearestPoints.{AreBelow, IsRowOf, amount_from, worth, IsMet, with_value, IsAtMost, IsAsNear, IsNearestAt}
use Rattle.sv_point.specs.PointLaws.{ArePositive, IsBoundOf, IsChosen}
use Rattle.sv_point.proofs.Worths.{amount-append, row_worth, scaled, by_size}
use Rattle.sv_point.proofs.Crossing.{crossing}
use Rattle.sv_point.proofs.Bounds.{chosen}
use Rattle.sv_lin.specs.Eliminations.{Placed, value_in, AreNormal, HaveNoAbsurd}
use Rattle.sv_lin.specs.Completeness.{AreComplete}
use Rattle.sv_lin.specs.UnderWay.{AreSides}
use Rattle.sv_lin.specs.Placing.{HasBound, IsTightest, IsNotAbove, IsNotBelow, Chooses}
use Rattle.sv_lin.specs.declared.point.Limit.{Limit}
use Rattle.sv_lin.specs.declared.point.Limit.TheVariants as l
use Rattle.sv_lin.specs.declared.point.Side.TheVariants as s
use Rattle.sv_lin.proofs.Entering.{contains_get, get_contained}
use Rattle.sv_lin.proofs.Gathering.{sum_below, cancel_at, same_some, same_factor, not_zero_at}
use Rattle.sv_lin.proofs.Saturation.{before_greatest}

-- ---- points that agree below a column

agree_amount : (at bt : ℕ → Ratio) (x : ℕ) (f : Ratio) (ps : List Monomial) → ((y : ℕ) → y < x → at y ≡ bt y) → AreBelow x ps → amount_from at f ps ≡ amount_from bt f ps
agree_amount at bt x f [] a b = refl
agree_amount at bt x f (p ∷ ps) a b =
    ap (λ v. amount_from at (sum_with f p.factor v) ps) (a p.column b.0) ∙ agree_amount at bt x (sum_with f p.factor (bt p.column)) ps a b.1

agree_worth : (at bt : ℕ → Ratio) (x : ℕ) (k : ℤ) (r : Row) → (t : IsRowOf x k r) → ((y : ℕ) → y < x → at y ≡ bt y) → worth at r.constant t.lows ≡ worth bt r.constant t.lows
agree_worth at bt x k r t a = agree_amount at bt x (ratio r.constant (pos 1)) t.lows a t.below

agree_met : (at bt : ℕ → Ratio) (x : ℕ) (k : ℤ) (r : Row) (f : Ratio) → IsRowOf x k r → ((y : ℕ) → y < x → at y ≡ bt y) → IsMet (with_value at x f) r → IsMet (with_value bt x f) r
agree_met at bt x k r f t a h =
    subst (λ (w : Ratio). w.top ≤ℤ pos 0) (row_worth at x k r t f ∙ (ap (λ w. sum_with w k f) (agree_worth at bt x k r t a) ∙ sym (row_worth bt x k r t f))) h

pub agree_nearest : (rows : List Row) (at bt : ℕ → Ratio) (x : ℕ) → ((y : ℕ) → y < x → at y ≡ bt y) → at x ≡ bt x → IsNearestAt rows at x → IsNearestAt rows bt x
agree_nearest rows at bt x a e n = record {
  meets = λ k r c t. subst (λ f. IsMet (with_value bt x f) r) e (agree_met at bt x k r (at x) t a (n.meets k r c t));
  nearest = λ f p m. subst (λ g. IsAsNear g f) e (n.nearest f p (λ k r c t. agree_met bt at x k r f t (λ y h. sym (a y h)) (m k r c t)));
}

agree_bound : (at bt : ℕ → Ratio) (x : ℕ) (k : ℤ) (r : Row) (g : Ratio) → ((y : ℕ) → y < x → at y ≡ bt y) → IsBoundOf at x k r g → IsBoundOf bt x k r g
agree_bound at bt x k r g a b = record {
  row = b.row;
  rest = b.rest;
  positive = b.positive;
  worth_is = subst (IsSame b.rest) (agree_worth at bt x k r b.row a) b.worth_is;
  bound = b.bound;
}

nothing_near : (f : Ratio) → IsAsNear (ratio (pos 0) (pos 1)) f
nothing_near f = go f.under (unsigned_abs f.top)
  where
    go : (u : ℤ) (n : ℕ) → (pos 0 *ℤ u) ≤ℤ (pos n *ℤ pos 1)
    go u n = omega (arith, ints)

-- a column without rows has 0
pub nearest_without : (rows : List Row) (at : ℕ → Ratio) (x : ℕ) → ((k : ℤ) (r : Row) → Contains rows r → IsRowOf x k r → ⊥) → at x ≡ ratio (pos 0) (pos 1) → IsNearestAt rows at x
nearest_without rows at x n e = record {
  meets = λ k r c t. absurd (n k r c t);
  nearest = λ f p m. subst (λ g. IsAsNear g f) (sym e) (nothing_near f);
}

-- ---- rows of smaller columns are met

pub met_at_own : (at : ℕ → Ratio) (x : ℕ) (k : ℤ) (r : Row) → IsRowOf x k r → IsMet (with_value at x (at x)) r → IsMet at r
met_at_own at x k r t h =
    subst (λ (w : Ratio). w.top ≤ℤ pos 0)
    (row_worth at x k r t (at x) ∙ sym (ap (worth at r.constant) t.is ∙ amount-append at (ratio r.constant (pos 1)) t.lows (monomial k x))) h

last_below : (x : ℕ) (lows : List Monomial) (p : Monomial) → AreBelow x (lows ++ p ∷ []) → p.column < x
last_below x [] p b = b.0
last_below x (q ∷ lows) p b = last_below x lows p b.1

none_greatest : (ps : List Monomial) → greatest ps ≡ None → ps ≡ []
none_greatest [] e = refl
none_greatest (p ∷ []) e = cc e
none_greatest (p ∷ q ∷ ps) e = let d = none_greatest (q ∷ ps) e in cc d

flat : (z : ℤ) → (pos 0 <ℤ z → ⊥) → z ≤ℤ pos 0
flat (pos zero) h = omega (arith, ints)
flat (pos (suc k)) h = absurd (h (omega (arith, ints)))
flat (negsuc k) h = omega (arith, ints)

-- a row in force is met where its greatest column has the nearest fraction
pub met_if_near : (rows : List Row) (at : ℕ → Ratio) (t : Row) → AreNormal rows → HaveNoAbsurd rows → Contains rows t → ((y : ℕ) (k : ℤ) → IsRowOf y k t → IsNearestAt rows at y) → IsMet at t
met_if_near rows at t f n c near = go (greatest t.parts) refl
  where
    go : (o : Option Monomial) → greatest t.parts ≡ o → IsMet at t
    go None e =
        let d = none_greatest t.parts e in
        subst (λ ps. (worth at t.constant ps).top ≤ℤ pos 0) (sym d) (flat t.constant (λ h. n t c (d, h)))
    go (Some p) e =
        let g = before_greatest t.parts p (f t c).rising e in
        let r : IsRowOf p.column p.factor t = record { lows = g.0; is = g.1; below = g.2 } in
        met_at_own at p.column p.factor t r ((near p.column p.factor r).meets p.factor t c r)

pub met_below : (rows : List Row) (at : ℕ → Ratio) (x : ℕ) (t : Row) → AreNormal rows → HaveNoAbsurd rows → Contains rows t → AreBelow x t.parts
    → ((y : ℕ) (k : ℤ) → y < x → IsRowOf y k t → IsNearestAt rows at y) → IsMet at t
met_below rows at x t f n c b near = met_if_near rows at t f n c (λ y k r. near y k (last_below x r.lows (monomial k y) (subst (AreBelow x) r.is b)) r)

-- ---- bounds cross

balance : (m n k l : ℕ) → pos m *ℤ pos k +ℤ pos n *ℤ neg_ℤ (pos l) ≡ pos 0 → m * k ≡ n * l
balance m n k l e = level (m * k) (n * l) (ap (λ z. pos (m * k) +ℤ z) (sym (negated_right (pos n) (pos l))) ∙ e)
  where
    level : (a b : ℕ) → pos a +ℤ neg_ℤ (pos b) ≡ pos 0 → a ≡ b
    level a b e = omega (arith, ints, e)

negative_is : (l : ℤ) → l <ℤ pos 0 → (n : ℕ) × (0 < n) × (l ≡ neg_ℤ (pos n))
negative_is (pos n) h = absurd (omega (arith, ints))
negative_is (negsuc n) h = (suc n, omega arith, refl)

pub crossed_at : (rows : List Row) (at : ℕ → Ratio) (x : ℕ) → AreNormal rows → HaveNoAbsurd rows → AreComplete rows → ArePositive at
    → ((y : ℕ) (k : ℤ) (t : Row) → y < x → Contains rows t → IsRowOf y k t → IsNearestAt rows at y)
    → (k l : ℤ) (r s : Row) (g h : Ratio) → Contains rows r → Contains rows s → pos 0 <ℤ k → l <ℤ pos 0 → IsBoundOf at x k r g → IsBoundOf at x l s h → IsAtMost h g
crossed_at rows at x f n complete p near k l r s g h cr cs hk hl bg bh =
    let d = complete x k l r s cr cs bg.row bh.row hk hl in
    let a = positive_is k hk in
    let b = negative_is l hl in
    let m = positive_is d.0 d.3.cancels.5.first in
    let i = positive_is d.1 d.3.cancels.5.second in
    let zero_sum = cancel_at x k l d.0 d.1 r s d.2 bg.row bh.row d.3 in
    let met = met_below rows at x d.2 f n d.4 (sum_below x k l d.0 d.1 r s d.2 bg.row bh.row d.3) (λ y j h t. near y j d.2 h d.4 t) in
    crossing at x a.0 b.0 m.0 i.0 r s g h p a.1 b.1 m.1 i.1
    (balance m.0 i.0 a.0 b.0 (subst (λ z. pos m.0 *ℤ pos a.0 +ℤ pos i.0 *ℤ z ≡ pos 0) b.2 (subst (λ z. pos m.0 *ℤ z +ℤ pos i.0 *ℤ l ≡ pos 0) a.2 (subst (λ z. z *ℤ k +ℤ pos i.0 *ℤ l ≡ pos 0) m.2 (subst (λ z. d.0 *ℤ k +ℤ z *ℤ l ≡ pos 0) i.2 zero_sum)))))
    (subst (λ z. IsBoundOf at x z r g) a.2 bg) (subst (λ z. IsBoundOf at x z s h) b.2 bh)
    (subst (IsMet at) (d.3.is ∙ ap₂ (λ y z. sum_of (times y r) (times z s)) m.2 i.2) met)

-- ---- the order of fractions

below_zero_least : (f : Ratio) → pos 0 ≤ℤ f.top → IsAtMost (ratio (pos 0) (pos 1)) f
below_zero_least f h = go f.top f.under h
  where
    go : (t u : ℤ) → pos 0 ≤ℤ t → (pos 0 *ℤ u) ≤ℤ (t *ℤ pos 1)
    go t u h = omega (arith, ints)

above_zero_least : (f : Ratio) → f.top ≤ℤ pos 0 → IsAtMost f (ratio (pos 0) (pos 1))
above_zero_least f h = go f.top f.under h
  where
    go : (t u : ℤ) → t ≤ℤ pos 0 → (t *ℤ pos 1) ≤ℤ (pos 0 *ℤ u)
    go t u h = omega (arith, ints)

through : (a c e : ℤ) (b d f : ℕ) → 0 < d → (a *ℤ pos d) ≤ℤ (c *ℤ pos b) → (c *ℤ pos f) ≤ℤ (e *ℤ pos d) → (a *ℤ pos f) ≤ℤ (e *ℤ pos b)
through a c e b d f p h k =
    let first : (pos (f * d) *ℤ a) ≤ℤ (pos (f * b) *ℤ c) = subst (λ z. z ≤ℤ (pos (f * b) *ℤ c)) (shape f d a) (subst (λ z. (pos f *ℤ (a *ℤ pos d)) ≤ℤ z) (shape f b c) (multiplied f (a *ℤ pos d) (c *ℤ pos b) h)) in
    let second : (pos (b * f) *ℤ c) ≤ℤ (pos (b * d) *ℤ e) = subst (λ z. z ≤ℤ (pos (b * d) *ℤ e)) (shape b f c) (subst (λ z. (pos b *ℤ (c *ℤ pos f)) ≤ℤ z) (shape b d e) (multiplied b (c *ℤ pos f) (e *ℤ pos d) k)) in
    let both = at_least (pos (f * d) *ℤ a) (pos (f * b) *ℤ c) (pos (b * d) *ℤ e) first (subst (λ z. z ≤ℤ (pos (b * d) *ℤ e)) (by_size (b * f) (f * b) c (omega arith)) second) in
    cancelled d (a *ℤ pos f) (e *ℤ pos b) p (subst (λ z. z ≤ℤ (pos d *ℤ (e *ℤ pos b))) (back d f a) (subst (λ z. (pos (f * d) *ℤ a) ≤ℤ z) (back' d b e) both))
  where
    shape : (m n : ℕ) (z : ℤ) → pos m *ℤ (z *ℤ pos n) ≡ pos (m * n) *ℤ z
    shape m n z = ap (λ y. pos m *ℤ y) (*ℤ_comm z (pos n)) ∙ scaled m n z

    back : (d f : ℕ) (a : ℤ) → pos (f * d) *ℤ a ≡ pos d *ℤ (a *ℤ pos f)
    back d f a = by_size (f * d) (d * f) a (omega arith) ∙ sym (shape d f a)

    back' : (d b : ℕ) (e : ℤ) → pos (b * d) *ℤ e ≡ pos d *ℤ (e *ℤ pos b)
    back' d b e = by_size (b * d) (d * b) e (omega arith) ∙ sym (shape d b e)

    at_least : (a b c : ℤ) → a ≤ℤ b → b ≤ℤ c → a ≤ℤ c
    at_least a b c h k = omega (arith, ints)

pub at_most_through : (f g h : Ratio) → pos 0 <ℤ f.under → pos 0 <ℤ g.under → pos 0 <ℤ h.under → IsAtMost f g → IsAtMost g h → IsAtMost f h
at_most_through f g h p q r i j =
    let b = positive_is f.under p in
    let d = positive_is g.under q in
    let e = positive_is h.under r in
    subst (λ z. (f.top *ℤ z) ≤ℤ (h.top *ℤ f.under)) (sym e.2) (subst (λ z. (f.top *ℤ pos e.0) ≤ℤ (h.top *ℤ z)) (sym b.2)
    (through f.top g.top h.top b.0 d.0 e.0 d.1
    (subst (λ z. (f.top *ℤ z) ≤ℤ (g.top *ℤ pos b.0)) d.2 (subst (λ z. (f.top *ℤ g.under) ≤ℤ (g.top *ℤ z)) b.2 i))
    (subst (λ z. (g.top *ℤ z) ≤ℤ (h.top *ℤ pos d.0)) e.2 (subst (λ z. (g.top *ℤ h.under) ≤ℤ (h.top *ℤ z)) d.2 j))))

-- ---- what is chosen between the bounds

at_same : (f g : Ratio) → l.At f ≡ l.At g → f ≡ g
at_same f g e = cc e

module _ (rows : List Row) (at : ℕ → Ratio) (x : ℕ) (normal : AreNormal rows) (none : HaveNoAbsurd rows) (complete : AreComplete rows) (positive : ArePositive at)
    (near : (y : ℕ) (k : ℤ) (t : Row) → y < x → Contains rows t → IsRowOf y k t → IsNearestAt rows at y)
    (us ls : List ℕ) (sides : AreSides rows x (length rows) us ls) (upper lower : Limit)
    (tight_upper : IsTightest rows at x s.Upper us upper) (tight_lower : IsTightest rows at x s.Lower ls lower)
    (exceeds_not : ((i : ℕ) → upper ≡ l.Exceeds i → ⊥) × ((i : ℕ) → lower ≡ l.Exceeds i → ⊥)) (f : Ratio) (chooses : Chooses lower upper f) where
  -- the bound of a row by its number is the row's
  own_bound : (k : ℤ) (r : Row) (p : ℕ) (g : Ratio) → slice_get rows p ≡ Some r → IsRowOf x k r → HasBound rows at x p g → IsBoundOf at x k r g
  own_bound k r p g e t h =
      let d = same_some h.1 r (slice_get rows p) h.2 e in
      let b = subst (λ u. IsBoundOf at x h.0 u g) d h.3 in
      let i = same_factor x h.0 k r r refl b.row t in
      subst (λ z. IsBoundOf at x z r g) i b

  upper_place : (k : ℤ) (r : Row) → Contains rows r → IsRowOf x k r → pos 0 <ℤ k → (p : ℕ) × (slice_get rows p ≡ Some r) × Contains us p
  upper_place k r c t h = let g = get_contained rows r c in (g.0, g.1, sides.each_upper g.0 (slice_get_within rows g.0 r g.1) (k, r, g.1, t, h))

  lower_place : (k : ℤ) (r : Row) → Contains rows r → IsRowOf x k r → k <ℤ pos 0 → (p : ℕ) × (slice_get rows p ≡ Some r) × Contains ls p
  lower_place k r c t h = let g = get_contained rows r c in (g.0, g.1, sides.each_lower g.0 (slice_get_within rows g.0 r g.1) (k, r, g.1, t, h))

  -- a bound of a number of a side, as the bound of a row there
  as_upper : (p : ℕ) (g : Ratio) → Contains us p → HasBound rows at x p g → (k : ℤ) × (r : Row) × Contains rows r × IsBoundOf at x k r g × (pos 0 <ℤ k)
  as_upper p g c h =
      let u = sides.uppers_are p c in
      (u.0, u.1, contains_get rows p u.1 u.2, own_bound u.0 u.1 p g u.2 u.3 h, u.4)

  as_lower : (p : ℕ) (g : Ratio) → Contains ls p → HasBound rows at x p g → (k : ℤ) × (r : Row) × Contains rows r × IsBoundOf at x k r g × (k <ℤ pos 0)
  as_lower p g c h =
      let u = sides.lowers_are p c in
      (u.0, u.1, contains_get rows p u.1 u.2, own_bound u.0 u.1 p g u.2 u.3 h, u.4)

  zero_positive : pos 0 <ℤ pos 1
  zero_positive = omega (arith, ints)

  -- an upper bound g of a row is kept
  keeps_upper : (k : ℤ) (r : Row) (g u : Ratio) → Contains rows r → pos 0 <ℤ k → IsBoundOf at x k r g → upper ≡ l.At u → IsTightest rows at x s.Upper us (l.At u) → IsAtMost u g
      → Chooses lower upper f → IsTightest rows at x s.Lower ls lower → IsAtMost f g
  keeps_upper k r g u c h b e i m (inl ch) j =
      let low = (subst (IsTightest rows at x s.Lower ls) ch.0 j).0 in
      let w = as_lower low.0 f low.1 low.2 in
      crossed_at rows at x normal none complete positive near k w.0 r w.1 g f c w.2 h w.4 b w.3
  keeps_upper k r g u c h b e i m (inr (inl ch)) j = subst (λ z. IsAtMost z g) (at_same u f (sym e ∙ ch.0)) m
  keeps_upper k r g u c h b e i m (inr (inr ch)) j =
      let top = as_upper i.0.0 u i.0.1 i.0.2 in
      subst (λ z. IsAtMost z g) (sym ch.0)
      (at_most_through (ratio (pos 0) (pos 1)) u g zero_positive top.3.bound.reduced.positive b.bound.reduced.positive (below_zero_least u (subst IsNotBelow e ch.2)) m)

  keeps_lower : (k : ℤ) (r : Row) (g u : Ratio) → Contains rows r → k <ℤ pos 0 → IsBoundOf at x k r g → lower ≡ l.At u → IsTightest rows at x s.Lower ls (l.At u) → IsAtMost g u
      → Chooses lower upper f → IsTightest rows at x s.Upper us upper → IsAtMost g f
  keeps_lower k r g u c h b e i m (inl ch) j = subst (IsAtMost g) (at_same u f (sym e ∙ ch.0)) m
  keeps_lower k r g u c h b e i m (inr (inl ch)) j =
      let top = (subst (IsTightest rows at x s.Upper us) ch.0 j).0 in
      let w = as_upper top.0 f top.1 top.2 in
      crossed_at rows at x normal none complete positive near w.0 k w.1 r f g w.2 c w.4 h w.3 b
  keeps_lower k r g u c h b e i m (inr (inr ch)) j =
      let low = as_lower i.0.0 u i.0.1 i.0.2 in
      subst (IsAtMost g) (sym ch.0)
      (at_most_through g u (ratio (pos 0) (pos 1)) b.bound.reduced.positive low.3.bound.reduced.positive zero_positive m (above_zero_least u (subst IsNotAbove e ch.1)))

  upper_bound : (k : ℤ) (r : Row) → Contains rows r → IsRowOf x k r → pos 0 <ℤ k → (p : ℕ) → slice_get rows p ≡ Some r → Contains us p
      → (u : Limit) → upper ≡ u → IsTightest rows at x s.Upper us u → (g : Ratio) × IsBoundOf at x k r g × IsAtMost f g
  upper_bound k r c t h p e a l.Unlimited d i = absurd (i p a)
  upper_bound k r c t h p e a (l.Exceeds n) d i = absurd (exceeds_not.0 n d)
  upper_bound k r c t h p e a (l.At u) d i =
      let w = i.1 p a in
      let b = own_bound k r p w.0 e t w.1 in
      (w.0, b, keeps_upper k r w.0 u c h b d i w.2 chooses tight_lower)

  lower_bound : (k : ℤ) (r : Row) → Contains rows r → IsRowOf x k r → k <ℤ pos 0 → (p : ℕ) → slice_get rows p ≡ Some r → Contains ls p
      → (u : Limit) → lower ≡ u → IsTightest rows at x s.Lower ls u → (g : Ratio) × IsBoundOf at x k r g × IsAtMost g f
  lower_bound k r c t h p e a l.Unlimited d i = absurd (i p a)
  lower_bound k r c t h p e a (l.Exceeds n) d i = absurd (exceeds_not.1 n d)
  lower_bound k r c t h p e a (l.At u) d i =
      let w = i.1 p a in
      let b = own_bound k r p w.0 e t w.1 in
      (w.0, b, keeps_lower k r w.0 u c h b d i w.2 chooses tight_upper)

  module _ (bt : ℕ → Ratio) (agree : (y : ℕ) → y < x → at y ≡ bt y) (own : bt x ≡ f) where
    kept : (k : ℤ) (r : Row) → Contains rows r → IsRowOf x k r → (sign : (pos 0 <ℤ k) ⊎ (k <ℤ pos 0))
        → (g : Ratio) × IsBoundOf bt x k r g × (((pos 0 <ℤ k) × IsAtMost (bt x) g) ⊎ ((k <ℤ pos 0) × IsAtMost g (bt x)))
    kept k r c t (inl h) =
        let a = upper_place k r c t h in
        let w = upper_bound k r c t h a.0 a.1 a.2 upper refl tight_upper in
        (w.0, agree_bound at bt x k r w.0 agree w.1, inl (h, subst (λ z. IsAtMost z w.0) (sym own) w.2))
    kept k r c t (inr h) =
        let a = lower_place k r c t h in
        let w = lower_bound k r c t h a.0 a.1 a.2 lower refl tight_lower in
        (w.0, agree_bound at bt x k r w.0 agree w.1, inr (h, subst (IsAtMost w.0) (sym own) w.2))

    sign_of : (k : ℤ) → (k ≡ pos 0 → ⊥) → (pos 0 <ℤ k) ⊎ (k <ℤ pos 0)
    sign_of (pos zero) n = absurd (n refl)
    sign_of (pos (suc k)) n = inl (omega (arith, ints))
    sign_of (negsuc k) n = inr (omega (arith, ints))

    from : (ch : Chooses lower upper f) → ((f.top ≡ pos 0)
        ⊎ (((pos 0 <ℤ f.top) × (k : ℤ) × (r : Row) × Contains rows r × IsBoundOf bt x k r f × (k <ℤ pos 0))
        ⊎ ((f.top <ℤ pos 0) × (k : ℤ) × (r : Row) × Contains rows r × IsBoundOf bt x k r f × (pos 0 <ℤ k))))
    from (inl ch) =
        let low = (subst (IsTightest rows at x s.Lower ls) ch.0 tight_lower).0 in
        let w = as_lower low.0 f low.1 low.2 in
        inr (inl (ch.1, w.0, w.1, w.2, agree_bound at bt x w.0 w.1 f agree w.3, w.4))
    from (inr (inl ch)) =
        let top = (subst (IsTightest rows at x s.Upper us) ch.0 tight_upper).0 in
        let w = as_upper top.0 f top.1 top.2 in
        inr (inr (ch.1, w.0, w.1, w.2, agree_bound at bt x w.0 w.1 f agree w.3, w.4))
    from (inr (inr ch)) = inl (ap (λ (z : Ratio). z.top) ch.0)

    is_chosen : IsChosen rows bt x
    is_chosen = record {
      kept = λ k r c t. kept k r c t (sign_of k (not_zero_at x k r t (normal r c)));
      from = subst (λ z. (z.top ≡ pos 0)
          ⊎ (((pos 0 <ℤ z.top) × (k : ℤ) × (r : Row) × Contains rows r × IsBoundOf bt x k r z × (k <ℤ pos 0))
          ⊎ ((z.top <ℤ pos 0) × (k : ℤ) × (r : Row) × Contains rows r × IsBoundOf bt x k r z × (pos 0 <ℤ k)))) (sym own) (from chooses);
    }

    pub nearest_here : ArePositive bt → IsNearestAt rows bt x
    nearest_here h = chosen rows bt x h is_chosen

  reduced_by : Chooses lower upper f → IsReduced f
  reduced_by (inl ch) = let low = (subst (IsTightest rows at x s.Lower ls) ch.0 tight_lower).0 in (as_lower low.0 f low.1 low.2).3.bound.reduced
  reduced_by (inr (inl ch)) = let top = (subst (IsTightest rows at x s.Upper us) ch.0 tight_upper).0 in (as_upper top.0 f top.1 top.2).3.bound.reduced
  reduced_by (inr (inr ch)) = subst IsReduced (sym ch.0) zero_reduced

  pub chosen_reduced : IsReduced f
  chosen_reduced = reduced_by chooses

-- ---- places, one more

get_placed : (ps : List Placed) (q : Placed) (y : ℕ) → (nat_eq y q.column ≡ false) → value_in (ps ++ q ∷ []) y ≡ value_in ps y
get_placed [] q y e = ap (λ b. cond b q.value (ratio (pos 0) (pos 1))) e
get_placed (p ∷ ps) q y e = ap (cond (nat_eq y p.column) p.value) (get_placed ps q y e)

unequal : (x y : ℕ) → (x ≡ y → ⊥) → nat_eq x y ≡ false
unequal x y h = go (nat_eq x y) refl
  where
    go : (b : Bool) → nat_eq x y ≡ b → b ≡ false
    go true e = absurd (h ((Decides-eqb x y).0 e))
    go false e = refl

pub placed_other : (ps : List Placed) (q : Placed) (y : ℕ) → (y ≡ q.column → ⊥) → value_in (ps ++ q ∷ []) y ≡ value_in ps y
placed_other ps q y n = get_placed ps q y (unequal y q.column n)

pub placed_own : (ps : List Placed) (q : Placed) (x : ℕ) → q.column ≡ x → (Contains (map (λ p. p.column) ps) x → ⊥) → value_in (ps ++ q ∷ []) x ≡ q.value
placed_own [] q x e n = ap (λ b. cond b q.value (ratio (pos 0) (pos 1))) ((Decides-eqb x q.column).1 (sym e))
placed_own (p ∷ ps) q x e n =
    ap (λ b. cond b p.value (value_in (ps ++ q ∷ []) x)) (unequal x p.column (λ d. n (0, omega arith, sym d)))
    ∙ placed_own ps q x e (λ c. n (suc c.0, let l = c.1 in omega (arith, l), c.2))

pub placed_none : (ps : List Placed) (x : ℕ) → (Contains (map (λ p. p.column) ps) x → ⊥) → value_in ps x ≡ ratio (pos 0) (pos 1)
placed_none [] x n = refl
placed_none (p ∷ ps) x n =
    ap (λ b. cond b p.value (value_in ps x)) (unequal x p.column (λ d. n (0, omega arith, sym d)))
    ∙ placed_none ps x (λ c. n (suc c.0, let l = c.1 in omega (arith, l), c.2))
