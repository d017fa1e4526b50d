-- Sums with a multiple, and bounds.
use Rattle.std.proofs.Common.{true, false, zero, suc, ◌≡◌, refl, sym, ap, ap₂, ◌∙◌, subst, arith, Option, Some, None}
use Rattle.std.specs.Prelude.{unsigned_abs, MatchOption, FitsSigned}
use mir.Syntax.{w128}
use mir.Val.{to_z, of_z}
use Rattle.std.proofs.lemmas.Int.{ints, to_z-of_z}
use Rattle.std.specs.Int.{◌∣◌}
use Rattle.std.proofs.Math.Nat.{eq-one_of_dvd-one}
use lib.IntN.{ℤ, pos, negsuc, neg_ℤ, ◌+ℤ◌, ◌*ℤ◌}
use lib.Signed.{lt_z, ◌<ℤ◌}
use Rattle.sv_num.specs.Range.{IsI128}
use Rattle.sv_fraction.specs.Fractions.{Ratio, ratio, IsReduced, IsSame, FitsSum, IsSum, IsBound, magnitude}
use Rattle.sv_fraction.proofs.Integers.{negated_left, negated_right}

pub whole_reduced : (n : ℤ) → IsReduced (ratio n (pos 1))
whole_reduced n = record { positive = omega (arith, ints); lowest = λ d h k. eq-one_of_dvd-one k }

magnitude_negated : (z : ℤ) → unsigned_abs (neg_ℤ z) ≡ unsigned_abs z
magnitude_negated (pos zero) = refl
magnitude_negated (pos (suc n)) = refl
magnitude_negated (negsuc n) = refl

pub negation_reduced : (t u : ℤ) → IsReduced (ratio t u) → IsReduced (ratio (neg_ℤ t) u)
negation_reduced t u h = record { positive = h.positive; lowest = λ d k l. h.lowest d (subst (λ z. d ∣ z) (magnitude_negated t) k) l }

pub option_mapped : {A : Type 0} (P P' : Type 0) (Q Q' : A → Type 0) (o : Option A) → (P → P') → ((x : A) → Q x → Q' x) → MatchOption o P Q → MatchOption o P' Q'
option_mapped P P' Q Q' None f g h = f h
option_mapped P P' Q Q' (Some x) f g h = g x h

negative_is : (k : ℤ) → k <ℤ pos 0 → k ≡ neg_ℤ (magnitude k)
negative_is (pos n) h = absurd (omega (arith, ints))
negative_is (negsuc n) h = refl

positive_is : (k : ℤ) → pos 0 <ℤ k → k ≡ magnitude k
positive_is (pos n) h = refl
positive_is (negsuc n) h = absurd (omega (arith, ints))

-- the rest t / u, and g what t / (u·|k|) is in lowest terms
pub bound_below : (t u k : ℤ) (g : Ratio) → k <ℤ pos 0 → IsReduced g → IsSame g (ratio t (u *ℤ magnitude k)) → IsBound (ratio t u) k g
bound_below t u k g h r s = record {
  reduced = r;
  zero_sum = ap (λ z. g.top *ℤ (u *ℤ z)) (negative_is k h)
      ∙ (ap (λ z. g.top *ℤ z) (negated_right u (magnitude k)) ∙ (negated_right g.top (u *ℤ magnitude k) ∙ ap neg_ℤ s));
}

pub bound_above : (t u k : ℤ) (g : Ratio) → pos 0 <ℤ k → IsReduced g → IsSame g (ratio t (u *ℤ magnitude k)) → IsBound (ratio t u) k (ratio (neg_ℤ g.top) g.under)
bound_above t u k g h r s = record {
  reduced = negation_reduced g.top g.under r;
  zero_sum = negated_left g.top (u *ℤ k) ∙ ap neg_ℤ (ap (λ z. g.top *ℤ (u *ℤ z)) (positive_is k h) ∙ s);
}

-- ---- what calls answer

pub fits_is : (z : ℤ) → FitsSigned w128 z → IsI128 z
fits_is (pos n) f = let h = f.sfits in (omega (arith, ints), omega (arith, ints))
fits_is (negsuc n) f = let h = f.sfits in (omega (arith, ints), omega (arith, ints))

-- a sum whose numbers on the way are these
pub sum_fits : (f x : Ratio) (k share top under : ℤ) → FitsSigned w128 share → FitsSigned w128 top → FitsSigned w128 under
    → share ≡ k *ℤ x.top → top ≡ f.top *ℤ x.under +ℤ share *ℤ f.under → under ≡ f.under *ℤ x.under
    → IsI128 (f.top *ℤ x.under) → IsI128 (share *ℤ f.under) → FitsSum f k x
sum_fits f x k share top under i j l d e g m n = record {
  share = subst IsI128 d (fits_is share i);
  own = m;
  other = subst (λ z. IsI128 (z *ℤ f.under)) d n;
  top = subst IsI128 (e ∙ ap (λ z. f.top *ℤ x.under +ℤ z *ℤ f.under) d) (fits_is top j);
  under = subst IsI128 g (fits_is under l);
}

pub sum_is : (f x g : Ratio) (k share top under : ℤ) → IsReduced g → IsSame g (ratio top under)
    → share ≡ k *ℤ x.top → top ≡ f.top *ℤ x.under +ℤ share *ℤ f.under → under ≡ f.under *ℤ x.under → IsSum f k x g
sum_is f x g k share top under r s d e i = record {
  reduced = r;
  same = ap (λ z. g.top *ℤ z) (sym i) ∙ (s ∙ ap (λ z. z *ℤ g.under) (e ∙ ap (λ z. f.top *ℤ x.under +ℤ z *ℤ f.under) d));
}

-- an `i128` as the code reads it
abbrev pub read : ℤ → ℤ
read z = to_z w128 (of_z w128 z)

abbrev pub products : (a b : ℤ) → FitsSigned w128 a → FitsSigned w128 b → read a *ℤ read b ≡ a *ℤ b
products a b f g = ap₂ (λ x y. x *ℤ y) (to_z-of_z w128 a f) (to_z-of_z w128 b g)

abbrev pub sums : (a b m n : ℤ) → FitsSigned w128 a → FitsSigned w128 b → FitsSigned w128 m → FitsSigned w128 n → read a *ℤ read b +ℤ read m *ℤ read n ≡ a *ℤ b +ℤ m *ℤ n
sums a b m n f g h i = ap₂ (λ x y. x +ℤ y) (products a b f g) (products m n h i)

-- the numbers that the code makes fit, where those of the sum do
pub made_fit : (t u v w k share : ℤ) (f x : Ratio) → FitsSigned w128 t → FitsSigned w128 u → FitsSigned w128 w → FitsSigned w128 share
    → ratio t u ≡ f → ratio v w ≡ x → share ≡ k *ℤ v → FitsSum f k x
    → IsI128 (read t *ℤ read w) × IsI128 (read share *ℤ read u) × IsI128 (read t *ℤ read w +ℤ read share *ℤ read u)
made_fit t u v w k share f x ft fu fw fs e g d h =
    let i = subst (λ y. FitsSum (ratio t u) k y) (sym g) (subst (λ y. FitsSum y k x) (sym e) h) in (
      subst IsI128 (sym (products t w ft fw)) i.own,
      subst IsI128 (sym (products share u fs fu ∙ ap (λ z. z *ℤ u) d)) i.other,
      subst IsI128 (sym (sums t w share u ft fw fs fu ∙ ap (λ z. t *ℤ w +ℤ z *ℤ u) d)) i.top,
    )

pub under_fits : (t u v w k : ℤ) (f x : Ratio) → FitsSigned w128 u → FitsSigned w128 w → ratio t u ≡ f → ratio v w ≡ x → FitsSum f k x → IsI128 (read u *ℤ read w)
under_fits t u v w k f x fu fw e g h =
    subst IsI128 (sym (products u w fu fw)) (subst (λ y. IsI128 (u *ℤ y.under)) (sym g) (subst (λ y. IsI128 (y.under *ℤ x.under)) (sym e) h.under))

pub magnitude_positive : (k : ℤ) → (k ≡ pos 0 → ⊥) → pos 0 <ℤ magnitude k
magnitude_positive (pos zero) h = absurd (h refl)
magnitude_positive (pos (suc n)) h = omega (arith, ints)
magnitude_positive (negsuc n) h = omega (arith, ints)

pub above_zero : (k : ℤ) → (k ≡ pos 0 → ⊥) → lt_z k (pos 0) ≡ false → pos 0 <ℤ k
above_zero (pos zero) h e = absurd (h refl)
above_zero (pos (suc n)) h e = omega (arith, ints)
above_zero (negsuc n) h e = cc e

pub below_zero : (k : ℤ) → lt_z k (pos 0) ≡ true → k <ℤ pos 0
below_zero k e = grind (arith, ints)

pub under_value : (u size under k : ℤ) → FitsSigned w128 u → FitsSigned w128 size → FitsSigned w128 k
    → size ≡ magnitude (read k) → under ≡ read u *ℤ read size → under ≡ u *ℤ magnitude k
under_value u size under k f g h d e = e ∙ (products u size f g ∙ ap (λ z. u *ℤ z) (d ∙ ap magnitude (to_z-of_z w128 k h)))
