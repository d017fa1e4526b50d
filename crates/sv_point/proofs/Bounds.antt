-- A row is met on the right side of its bound.
use Rattle.std.proofs.Common.{ℕ, zero, suc, ◌*◌, ◌<◌, ◌≡◌, inl, inr, refl, sym, ap, ap₂, ◌∙◌, subst, arith}
use Rattle.std.proofs.lemmas.Int.{ints}
use Rattle.std.specs.Prelude.{unsigned_abs}
use lib.IntN.{ℤ, pos, negsuc, neg_ℤ, ◌+ℤ◌, ◌*ℤ◌, *ℤ_comm}
use lib.Signed.{◌≤ℤ◌, ◌<ℤ◌}
use Rattle.sv_fraction.specs.Fractions.{Ratio, sum_with, magnitude}
use Rattle.sv_fraction.proofs.Integers.{spread, exchanged, negated_left, negated_right, multiplied, cancelled, same_cancelled, positive_is}
use Rattle.sv_point.specs.NearestPoints.{worth, with_value}
use Rattle.sv_point.specs.PointLaws.{BoundsAreExact, ChosenIsNearest}
use Rattle.sv_point.proofs.Worths.{row_worth, worth_positive, scaled, by_size}

pub no_product : (d : ℕ) → pos d *ℤ pos 0 ≡ pos 0
no_product d = omega (arith, ints)

pub product_of_positives : (a b : ℕ) → 0 < a → 0 < b → 0 < a * b
product_of_positives zero b h k = absurd (omega (arith, h))
product_of_positives (suc a) zero h k = absurd (omega (arith, k))
product_of_positives (suc a) (suc b) h k = omega arith

pub turned : (x y : ℤ) → x ≡ neg_ℤ y → y ≡ neg_ℤ x
turned x y e = omega (arith, ints)

-- t/u and k times f/w are at most 0 together, and g/v is -t/(u·k)
module _ (u k v w : ℕ) (pu : 0 < u) (pk : 0 < k) (pv : 0 < v) (t f g : ℤ) (e : pos v *ℤ t ≡ neg_ℤ (pos (u * k) *ℤ g)) where
  abbrev sum : ℤ
  sum = t *ℤ pos w +ℤ (pos k *ℤ f) *ℤ pos u

  own : pos v *ℤ (t *ℤ pos w) ≡ neg_ℤ (pos (u * k) *ℤ (pos w *ℤ g))
  own = ap (λ z. pos v *ℤ z) (*ℤ_comm t (pos w)) ∙ (exchanged (pos v) (pos w) t ∙ (ap (λ z. pos w *ℤ z) e
      ∙ (negated_right (pos w) (pos (u * k) *ℤ g) ∙ ap neg_ℤ (exchanged (pos w) (pos (u * k)) g))))

  other : pos v *ℤ ((pos k *ℤ f) *ℤ pos u) ≡ pos (u * k) *ℤ (pos v *ℤ f)
  other = ap (λ z. pos v *ℤ z) (*ℤ_comm (pos k *ℤ f) (pos u) ∙ scaled u k f) ∙ exchanged (pos v) (pos (u * k)) f

  whole : pos v *ℤ sum ≡ neg_ℤ (pos (u * k) *ℤ (pos w *ℤ g)) +ℤ pos (u * k) *ℤ (pos v *ℤ f)
  whole = sym (spread (pos v) (t *ℤ pos w) ((pos k *ℤ f) *ℤ pos u)) ∙ ap₂ (λ x y. x +ℤ y) own other

  size : 0 < u * k
  size = product_of_positives u k pu pk

  pub below : sum ≤ℤ pos 0 → (f *ℤ pos v) ≤ℤ (g *ℤ pos w)
  below h =
      let m = subst (λ z. z ≤ℤ (pos v *ℤ pos 0)) whole (multiplied v sum (pos 0) h) in
      let n = moved (pos (u * k) *ℤ (pos w *ℤ g)) (pos (u * k) *ℤ (pos v *ℤ f)) (pos v *ℤ pos 0) (no_product v) m in
      subst (λ z. z ≤ℤ (g *ℤ pos w)) (*ℤ_comm (pos v) f) (subst (λ z. (pos v *ℤ f) ≤ℤ z) (*ℤ_comm (pos w) g) (cancelled (u * k) (pos v *ℤ f) (pos w *ℤ g) size n))
    where
      moved : (x y z : ℤ) → z ≡ pos 0 → (neg_ℤ x +ℤ y) ≤ℤ z → y ≤ℤ x
      moved x y z e h = omega (arith, ints)

  pub met : (f *ℤ pos v) ≤ℤ (g *ℤ pos w) → sum ≤ℤ pos 0
  met h =
      let i = subst (λ z. z ≤ℤ (pos w *ℤ g)) (*ℤ_comm f (pos v)) (subst (λ z. (f *ℤ pos v) ≤ℤ z) (*ℤ_comm g (pos w)) h) in
      let m = multiplied (u * k) (pos v *ℤ f) (pos w *ℤ g) i in
      let n = moved (pos (u * k) *ℤ (pos w *ℤ g)) (pos (u * k) *ℤ (pos v *ℤ f)) (pos v *ℤ pos 0) (no_product v) m in
      cancelled v sum (pos 0) pv (subst (λ z. z ≤ℤ (pos v *ℤ pos 0)) (sym whole) n)
    where
      moved : (x y z : ℤ) → z ≡ pos 0 → y ≤ℤ x → (neg_ℤ x +ℤ y) ≤ℤ z
      moved x y z e h = omega (arith, ints)

-- ---- the bound by what the row is worth

-- -ρ/k for another form t/u of ρ
pub bound_over : (rt t g : ℤ) (ru u k v : ℕ) → 0 < ru → rt *ℤ pos u ≡ t *ℤ pos ru → g *ℤ (pos ru *ℤ pos k) ≡ neg_ℤ (rt *ℤ pos v) → pos v *ℤ t ≡ neg_ℤ (pos (u * k) *ℤ g)
bound_over rt t g ru u k v p s h = same_cancelled ru (pos v *ℤ t) (neg_ℤ (pos (u * k) *ℤ g)) p whole
  where
    first : pos ru *ℤ t ≡ pos u *ℤ rt
    first = *ℤ_comm (pos ru) t ∙ (sym s ∙ *ℤ_comm rt (pos u))

    second : pos v *ℤ rt ≡ neg_ℤ (pos (ru * k) *ℤ g)
    second = *ℤ_comm (pos v) rt ∙ (turned (g *ℤ (pos ru *ℤ pos k)) (rt *ℤ pos v) h ∙ ap neg_ℤ (*ℤ_comm g (pos (ru * k))))

    whole : pos ru *ℤ (pos v *ℤ t) ≡ pos ru *ℤ neg_ℤ (pos (u * k) *ℤ g)
    whole = exchanged (pos ru) (pos v) t ∙ (ap (λ z. pos v *ℤ z) first ∙ (exchanged (pos v) (pos u) rt ∙ (ap (λ z. pos u *ℤ z) second
        ∙ (negated_right (pos u) (pos (ru * k) *ℤ g) ∙ (ap neg_ℤ (scaled u (ru * k) g ∙ (by_size (u * (ru * k)) (ru * (u * k)) g (omega arith) ∙ sym (scaled ru (u * k) g)))
        ∙ sym (negated_right (pos ru) (pos (u * k) *ℤ g)))))))

above_is : (k : ℤ) → pos 0 <ℤ k → (n : ℕ) × (0 < n) × (k ≡ pos n)
above_is k h = positive_is k h

below_is : (k : ℤ) → k <ℤ pos 0 → (n : ℕ) × (0 < n) × (k ≡ neg_ℤ (pos n))
below_is (pos n) h = absurd (omega (arith, ints))
below_is (negsuc n) h = (suc n, omega arith, refl)

-- the sign of k apart: k·g is n·h, with h the negative of g where k is below 0
pub two_negatives : (a b : ℤ) → neg_ℤ a *ℤ neg_ℤ b ≡ a *ℤ b
two_negatives a b = negated_left a (neg_ℤ b) ∙ (ap neg_ℤ (negated_right a b) ∙ twice (a *ℤ b))
  where
    twice : (z : ℤ) → neg_ℤ (neg_ℤ z) ≡ z
    twice z = omega (arith, ints)

pub exact : BoundsAreExact
exact at x k r g f h b p =
    let w = worth at r.constant b.row.lows in
    let u = positive_is w.under (worth_positive at r.constant b.row.lows h) in
    let ru = positive_is b.rest.under b.positive in
    let v = positive_is g.under b.bound.reduced.positive in
    let d = positive_is f.under p in
    let same : b.rest.top *ℤ pos u.0 ≡ w.top *ℤ pos ru.0 = subst (λ z. b.rest.top *ℤ z ≡ w.top *ℤ pos ru.0) u.2 (subst (λ z. b.rest.top *ℤ w.under ≡ w.top *ℤ z) ru.2 b.worth_is) in
    let null : g.top *ℤ (pos ru.0 *ℤ k) ≡ neg_ℤ (b.rest.top *ℤ pos v.0) = subst (λ z. g.top *ℤ (z *ℤ k) ≡ neg_ℤ (b.rest.top *ℤ pos v.0)) ru.2 (subst (λ z. g.top *ℤ (b.rest.under *ℤ k) ≡ neg_ℤ (b.rest.top *ℤ z)) v.2 b.bound.zero_sum) in
    let form : worth (with_value at x f) r.constant r.parts ≡ sum_with w k f = row_worth at x k r b.row f in
    let top : (worth (with_value at x f) r.constant r.parts).top ≡ w.top *ℤ pos d.0 +ℤ (k *ℤ f.top) *ℤ pos u.0
    = ap (λ (z : Ratio). z.top) form ∙ ap₂ (λ y z. w.top *ℤ y +ℤ (k *ℤ f.top) *ℤ z) d.2 u.2 in (
      λ l. positive k (above_is k l) w.top f.top g.top b.rest.top u.0 ru.0 v.0 d.0 u.1 ru.1 v.1 same null f.under g.under d.2 v.2 (worth (with_value at x f) r.constant r.parts).top top,
      λ l. negative k (below_is k l) w.top f.top g.top b.rest.top u.0 ru.0 v.0 d.0 u.1 ru.1 v.1 same null f.under g.under d.2 v.2 (worth (with_value at x f) r.constant r.parts).top top,
    )
  where
    positive : (k : ℤ) → (n : ℕ) × (0 < n) × (k ≡ pos n) → (t f g rt : ℤ) (u ru v d : ℕ) → 0 < u → 0 < ru → 0 < v → rt *ℤ pos u ≡ t *ℤ pos ru → g *ℤ (pos ru *ℤ k) ≡ neg_ℤ (rt *ℤ pos v)
        → (fu gu : ℤ) → fu ≡ pos d → gu ≡ pos v → (z : ℤ) → z ≡ t *ℤ pos d +ℤ (k *ℤ f) *ℤ pos u
        → (z ≤ℤ pos 0 → ((f *ℤ gu) ≤ℤ (g *ℤ fu))) × (((f *ℤ gu) ≤ℤ (g *ℤ fu)) → z ≤ℤ pos 0)
    positive k n t f g rt u ru v d pu pr pv same null fu gu df dg z top =
        let i = subst (λ y. g *ℤ (pos ru *ℤ y) ≡ neg_ℤ (rt *ℤ pos v)) n.2 null in
        let e = bound_over rt t g ru u n.0 v pr same i in
        let s : z ≡ t *ℤ pos d +ℤ (pos n.0 *ℤ f) *ℤ pos u = top ∙ ap (λ y. t *ℤ pos d +ℤ (y *ℤ f) *ℤ pos u) n.2 in (
          λ m. subst (λ y. (f *ℤ gu) ≤ℤ (g *ℤ y)) (sym df) (subst (λ y. (f *ℤ y) ≤ℤ (g *ℤ pos d)) (sym dg) (below u n.0 v d pu n.1 pv t f g e (subst (λ y. y ≤ℤ pos 0) s m))),
          λ m. subst (λ y. y ≤ℤ pos 0) (sym s) (met u n.0 v d pu n.1 pv t f g e (subst (λ y. (f *ℤ y) ≤ℤ (g *ℤ pos d)) dg (subst (λ y. (f *ℤ gu) ≤ℤ (g *ℤ y)) df m))),
        )

    negative : (k : ℤ) → (n : ℕ) × (0 < n) × (k ≡ neg_ℤ (pos n)) → (t f g rt : ℤ) (u ru v d : ℕ) → 0 < u → 0 < ru → 0 < v → rt *ℤ pos u ≡ t *ℤ pos ru → g *ℤ (pos ru *ℤ k) ≡ neg_ℤ (rt *ℤ pos v)
        → (fu gu : ℤ) → fu ≡ pos d → gu ≡ pos v → (z : ℤ) → z ≡ t *ℤ pos d +ℤ (k *ℤ f) *ℤ pos u
        → (z ≤ℤ pos 0 → ((g *ℤ fu) ≤ℤ (f *ℤ gu))) × (((g *ℤ fu) ≤ℤ (f *ℤ gu)) → z ≤ℤ pos 0)
    negative k n t f g rt u ru v d pu pr pv same null fu gu df dg z top =
        let i : neg_ℤ g *ℤ (pos ru *ℤ pos n.0) ≡ neg_ℤ (rt *ℤ pos v)
        = sym (two_negatives (neg_ℤ g) (pos ru *ℤ pos n.0)) ∙ (ap (λ y. y *ℤ neg_ℤ (pos ru *ℤ pos n.0)) (twice g) ∙ (ap (λ y. g *ℤ y) (sym (negated_right (pos ru) (pos n.0)) ∙ ap (λ y. pos ru *ℤ y) (sym n.2)) ∙ null)) in
        let e = bound_over rt t (neg_ℤ g) ru u n.0 v pr same i in
        let s : z ≡ t *ℤ pos d +ℤ (pos n.0 *ℤ neg_ℤ f) *ℤ pos u
        = top ∙ ap (λ y. t *ℤ pos d +ℤ y *ℤ pos u) (ap (λ y. y *ℤ f) n.2 ∙ (negated_left (pos n.0) f ∙ sym (negated_right (pos n.0) f))) in (
          λ m. flip (f *ℤ gu) (g *ℤ fu) (neg_ℤ f *ℤ pos v) (neg_ℤ g *ℤ pos d) (negated_left f (pos v) ∙ ap (λ y. neg_ℤ (f *ℤ y)) (sym dg)) (negated_left g (pos d) ∙ ap (λ y. neg_ℤ (g *ℤ y)) (sym df))
              (below u n.0 v d pu n.1 pv t (neg_ℤ f) (neg_ℤ g) e (subst (λ y. y ≤ℤ pos 0) s m)),
          λ m. subst (λ y. y ≤ℤ pos 0) (sym s) (met u n.0 v d pu n.1 pv t (neg_ℤ f) (neg_ℤ g) e
              (back (f *ℤ gu) (g *ℤ fu) (neg_ℤ f *ℤ pos v) (neg_ℤ g *ℤ pos d) (negated_left f (pos v) ∙ ap (λ y. neg_ℤ (f *ℤ y)) (sym dg)) (negated_left g (pos d) ∙ ap (λ y. neg_ℤ (g *ℤ y)) (sym df)) m)),
        )
      where
        twice : (z : ℤ) → neg_ℤ (neg_ℤ z) ≡ z
        twice z = omega (arith, ints)

        flip : (a b c d : ℤ) → c ≡ neg_ℤ a → d ≡ neg_ℤ b → c ≤ℤ d → b ≤ℤ a
        flip a b c d e f h = omega (arith, ints)

        back : (a b c d : ℤ) → c ≡ neg_ℤ a → d ≡ neg_ℤ b → b ≤ℤ a → c ≤ℤ d
        back a b c d e f h = omega (arith, ints)

-- ---- the nearest

self_below : (z : ℤ) → z ≤ℤ magnitude z
self_below (pos n) = omega (arith, ints)
self_below (negsuc n) = omega (arith, ints)

negative_below : (z : ℤ) → neg_ℤ z ≤ℤ magnitude z
negative_below (pos n) = omega (arith, ints)
negative_below (negsuc n) = omega (arith, ints)

at_least : (a b c : ℤ) → a ≤ℤ b → b ≤ℤ c → a ≤ℤ c
at_least a b c h k = omega (arith, ints)

-- a greater numerator over the same denominator
over : (a b u : ℤ) → pos 0 <ℤ u → a ≤ℤ b → (a *ℤ u) ≤ℤ (b *ℤ u)
over a b u p h =
    let d = positive_is u p in
    subst (λ z. (a *ℤ z) ≤ℤ (b *ℤ z)) (sym d.2)
    (subst (λ z. z ≤ℤ (b *ℤ pos d.0)) (*ℤ_comm (pos d.0) a) (subst (λ z. (pos d.0 *ℤ a) ≤ℤ z) (*ℤ_comm (pos d.0) b) (multiplied d.0 a b h)))

near_zero : (t ft u fu : ℤ) → pos 0 <ℤ u → t ≡ pos 0 → (magnitude t *ℤ fu) ≤ℤ (magnitude ft *ℤ u)
near_zero t ft u fu p e = subst (λ z. (magnitude z *ℤ fu) ≤ℤ (magnitude ft *ℤ u)) (sym e)
    (at_least (pos 0 *ℤ fu) (pos 0 *ℤ u) (magnitude ft *ℤ u) (level fu u) (over (pos 0) (magnitude ft) u p (not_below (unsigned_abs ft))))
  where
    level : (y z : ℤ) → (pos 0 *ℤ y) ≤ℤ (pos 0 *ℤ z)
    level y z = omega (arith, ints)

    not_below : (n : ℕ) → pos 0 ≤ℤ pos n
    not_below n = omega (arith, ints)

near_above : (t ft u fu : ℤ) → pos 0 <ℤ u → pos 0 <ℤ t → (t *ℤ fu) ≤ℤ (ft *ℤ u) → (magnitude t *ℤ fu) ≤ℤ (magnitude ft *ℤ u)
near_above (pos n) ft u fu p l h = at_least (pos n *ℤ fu) (ft *ℤ u) (magnitude ft *ℤ u) h (over ft (magnitude ft) u p (self_below ft))
near_above (negsuc n) ft u fu p l h = absurd (omega (arith, ints))

near_below : (t ft u fu : ℤ) → pos 0 <ℤ u → t <ℤ pos 0 → (ft *ℤ u) ≤ℤ (t *ℤ fu) → (magnitude t *ℤ fu) ≤ℤ (magnitude ft *ℤ u)
near_below (pos n) ft u fu p l h = absurd (omega (arith, ints))
near_below (negsuc n) ft u fu p l h =
    subst (λ z. z ≤ℤ (magnitude ft *ℤ u)) (sym (negated_left (negsuc n) fu))
    (at_least (neg_ℤ (negsuc n *ℤ fu)) (neg_ℤ ft *ℤ u) (magnitude ft *ℤ u)
    (subst (λ z. neg_ℤ (negsuc n *ℤ fu) ≤ℤ z) (sym (negated_left ft u)) (flipped (ft *ℤ u) (negsuc n *ℤ fu) h))
    (over (neg_ℤ ft) (magnitude ft) u p (negative_below ft)))
  where
    flipped : (a b : ℤ) → a ≤ℤ b → neg_ℤ b ≤ℤ neg_ℤ a
    flipped a b h = omega (arith, ints)

pub chosen : ChosenIsNearest
chosen rows at x h c = record {
  meets = λ k r i t.
      let q = c.kept k r i t in
      elim q.2 [
        | inl a ↦ ((exact at x k r q.0 (at x) h q.1 (h x)).0 a.0).1 a.1
        | inr a ↦ ((exact at x k r q.0 (at x) h q.1 (h x)).1 a.0).1 a.1
      ];
  nearest = λ f p m.
      elim c.from [
        | inl e ↦ near_zero (at x).top f.top (at x).under f.under (h x) e
        | inr q ↦ elim q [
          | inl a ↦ near_above (at x).top f.top (at x).under f.under (h x) a.0 (((exact at x a.1 a.2 (at x) f h a.4 p).1 a.5).0 (m a.1 a.2 a.3 a.4.row))
          | inr a ↦ near_below (at x).top f.top (at x).under f.under (h x) a.0 (((exact at x a.1 a.2 (at x) f h a.4 p).0 a.5).0 (m a.1 a.2 a.3 a.4.row))
        ]
      ];
}
