-- Fractions over a common denominator.
use Rattle.std.proofs.Common.{ℕ, zero, suc, ◌*◌, ◌<◌, Bool, true, false, cond, nat_eq, List, [], ◌∷◌, ◌≡◌, refl, sym, ap, ap₂, ◌∙◌, subst, arith}
use Rattle.std.proofs.lemmas.Int.{ints}
use Rattle.std.proofs.lemmas.Bool.Decides.{Decides-eqb}
use lib.IntN.{ℤ, pos, ◌+ℤ◌, ◌*ℤ◌, *ℤ_comm}
use Rattle.sv_log.specs.LogEntries.{Monomial}
use Rattle.sv_log.specs.LogRows.{total}
use Rattle.sv_fraction.specs.Fractions.{Ratio, ratio, sum_with}
use Rattle.sv_fraction.proofs.Integers.{spread_left, regrouped, exchanged, positive_is}
use Rattle.sv_point.specs.NearestPoints.{AreBelow, amount_from, worth}
use Rattle.sv_point.specs.PointLaws.{ArePositive}
use Rattle.sv_point.proofs.Bounds.{product_of_positives}

-- each fraction below c is the column's whole number over the scale
pub record IsScaled (at : ℕ → Ratio) (c : ℕ) (scale : ℕ) (whole : ℕ → ℤ) : Type 0 where
  pub positive : 0 < scale
  pub each : (x : ℕ) → x < c → whole x *ℤ (at x).under ≡ (at x).top *ℤ pos scale

commuted : (m n : ℕ) → m * n ≡ n * m
commuted m n = omega arith

-- one column more, whose denominator is e
abbrev next : (ℕ → Ratio) → ℕ → ℕ → (ℕ → ℤ) → ℕ → ℕ → ℤ
next at c scale whole e x = cond (nat_eq x c) ((at c).top *ℤ pos scale) (pos e *ℤ whole x)

next_own : (at : ℕ → Ratio) (c scale : ℕ) (whole : ℕ → ℤ) (e : ℕ) (x : ℕ) → x ≡ c → next at c scale whole e x ≡ (at c).top *ℤ pos scale
next_own at c scale whole e x s = ap (λ b. cond b ((at c).top *ℤ pos scale) (pos e *ℤ whole x)) ((Decides-eqb x c).1 s)

next_other : (at : ℕ → Ratio) (c scale : ℕ) (whole : ℕ → ℤ) (e : ℕ) (x : ℕ) → (x ≡ c → ⊥) → next at c scale whole e x ≡ pos e *ℤ whole x
next_other at c scale whole e x ne = go (nat_eq x c) refl
  where
    go : (b : Bool) → nat_eq x c ≡ b → cond b ((at c).top *ℤ pos scale) (pos e *ℤ whole x) ≡ pos e *ℤ whole x
    go true t = absurd (ne ((Decides-eqb x c).0 t))
    go false t = refl

pub scaled_to : (at : ℕ → Ratio) → ArePositive at → (c : ℕ) → (scale : ℕ) × (whole : ℕ → ℤ) × IsScaled at c scale whole
scaled_to at h zero = (1, λ x. pos 0, record { positive = omega arith; each = λ x l. absurd (omega (arith, l)) })
scaled_to at h (suc c) = more (scaled_to at h c) (positive_is (at c).under (h c))
  where
    more : (scale : ℕ) × (whole : ℕ → ℤ) × IsScaled at c scale whole → (e : ℕ) × (0 < e) × ((at c).under ≡ pos e) → (scale : ℕ) × (whole : ℕ → ℤ) × IsScaled at (suc c) scale whole
    more s e = (
      s.0 * e.0,
      next at c s.0 s.1 e.0,
      record {
        positive = product_of_positives s.0 e.0 s.2.positive e.1;
        each = λ x l. by_place x l (nat_eq x c) refl;
      },
    )
      where
        by_place : (x : ℕ) → x < suc c → (b : Bool) → nat_eq x c ≡ b → next at c s.0 s.1 e.0 x *ℤ (at x).under ≡ (at x).top *ℤ pos (s.0 * e.0)
        by_place x l true t =
            let i = (Decides-eqb x c).0 t in
            subst (λ y. next at c s.0 s.1 e.0 x *ℤ (at y).under ≡ (at y).top *ℤ pos (s.0 * e.0)) (sym i)
            (ap (λ z. z *ℤ (at c).under) (next_own at c s.0 s.1 e.0 x i) ∙ (ap (λ z. ((at c).top *ℤ pos s.0) *ℤ z) e.2 ∙ regrouped (at c).top (pos s.0) (pos e.0)))
        by_place x l false t =
            let ne : x ≡ c → ⊥ = λ z. cc (t, (Decides-eqb x c).1 z) in
            let m : x < c = omega (arith, l, ne) in
            ap (λ z. z *ℤ (at x).under) (next_other at c s.0 s.1 e.0 x ne) ∙ (regrouped (pos e.0) (s.1 x) (at x).under ∙ (ap (λ z. pos e.0 *ℤ z) (s.2.each x m)
            ∙ (exchanged (pos e.0) (at x).top (pos s.0) ∙ ap (λ n. (at x).top *ℤ pos n) (commuted e.0 s.0))))

module _ (at : ℕ → Ratio) (c scale : ℕ) (whole : ℕ → ℤ) (s : IsScaled at c scale whole) where
  -- (a·n + (k·t)·b)·scale, for a/b that is v over the scale and t/n that is w over it
  step : (a b n t k v w : ℤ) → a *ℤ pos scale ≡ v *ℤ b → w *ℤ n ≡ t *ℤ pos scale → (a *ℤ n +ℤ (k *ℤ t) *ℤ b) *ℤ pos scale ≡ (v +ℤ k *ℤ w) *ℤ (b *ℤ n)
  step a b n t k v w e f = spread_left (a *ℤ n) ((k *ℤ t) *ℤ b) (pos scale) ∙ (ap₂ (λ x y. x +ℤ y) first second ∙ sym (spread_left v (k *ℤ w) (b *ℤ n)))
    where
      first : (a *ℤ n) *ℤ pos scale ≡ v *ℤ (b *ℤ n)
      first = ap (λ z. z *ℤ pos scale) (*ℤ_comm a n) ∙ (regrouped n a (pos scale) ∙ (ap (λ z. n *ℤ z) e ∙ (*ℤ_comm n (v *ℤ b) ∙ regrouped v b n)))

      second : ((k *ℤ t) *ℤ b) *ℤ pos scale ≡ (k *ℤ w) *ℤ (b *ℤ n)
      second = ap (λ z. z *ℤ pos scale) (*ℤ_comm (k *ℤ t) b) ∙ (regrouped b (k *ℤ t) (pos scale) ∙ (ap (λ z. b *ℤ z) (regrouped k t (pos scale) ∙ (ap (λ z. k *ℤ z) (sym f) ∙ sym (regrouped k w n)))
          ∙ (exchanged b (k *ℤ w) n)))

  amount_scaled : (f : Ratio) (v : ℤ) (ps : List Monomial) → AreBelow c ps → f.top *ℤ pos scale ≡ v *ℤ f.under
      → (amount_from at f ps).top *ℤ pos scale ≡ (v +ℤ total whole ps) *ℤ (amount_from at f ps).under
  amount_scaled f v [] b e = e ∙ ap (λ z. z *ℤ f.under) (nothing v)
    where
      nothing : (v : ℤ) → v ≡ v +ℤ pos 0
      nothing v = omega (arith, ints)
  amount_scaled f v (p ∷ ps) b e =
      amount_scaled (sum_with f p.factor (at p.column)) (v +ℤ p.factor *ℤ whole p.column) ps b.1
      (step f.top f.under (at p.column).under (at p.column).top p.factor v (whole p.column) e (s.each p.column b.0))
      ∙ ap (λ z. z *ℤ (amount_from at (sum_with f p.factor (at p.column)) ps).under) (grouped v (p.factor *ℤ whole p.column) (total whole ps))
    where
      grouped : (x y z : ℤ) → (x +ℤ y) +ℤ z ≡ x +ℤ (y +ℤ z)
      grouped x y z = omega (arith, ints)

  pub worth_scaled : (k : ℤ) (ps : List Monomial) → AreBelow c ps → (worth at k ps).top *ℤ pos scale ≡ (pos scale *ℤ k +ℤ total whole ps) *ℤ (worth at k ps).under
  worth_scaled k ps b = amount_scaled (ratio k (pos 1)) (pos scale *ℤ k) ps b (*ℤ_comm k (pos scale) ∙ unit (pos scale *ℤ k))
    where
      unit : (z : ℤ) → z ≡ z *ℤ pos 1
      unit z = omega (arith, ints)
