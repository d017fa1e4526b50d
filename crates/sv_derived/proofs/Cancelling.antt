-- The least multipliers are one pair.
use Rattle.std.proofs.Common.{zero, suc, Bool, true, false, ◌≡◌, sym, ap, ◌∙◌, subst, arith}
use Rattle.std.specs.Bool.{Decides}
use Rattle.std.specs.Prelude.{FitsSigned}
use Rattle.std.proofs.lemmas.Int.{ints, to_z-of_z}
use mir.Syntax.{w128}
use mir.Val.{to_z, of_z}
use Rattle.std.specs.Prelude.{nat_eq}
use Rattle.std.proofs.lemmas.Bool.Decides.{Decides-like, Decides-eqb}
use lib.IntN.{ℤ, pos, negsuc, ◌*ℤ◌}
use lib.Signed.{◌≤ℤ◌, ◌<ℤ◌, lt_z}
use Rattle.sv_num.specs.Range.{IsI128}
use Rattle.sv_log.specs.LogRows.{Cancels}
use Rattle.sv_row.specs.Multipliers.{ExceedMultipliers}

both_ways : (x y : ℤ) → x ≤ℤ y → y ≤ℤ x → x ≡ y
both_ways x y h k = omega (arith, ints)

pub one_pair : (a b m n k l : ℤ) → Cancels a b k l → Cancels m n k l → (m ≡ a) × (n ≡ b)
one_pair a b m n k l c d =
    let e = c.least m n d.first d.second d.zero_sum in
    let f = d.least a b c.first c.second c.zero_sum in
    (both_ways m a f.0 e.0, both_ways n b f.1 e.1)

-- the test of a pair against the least
pub tested : (a b m n k l : ℤ) (r : Bool) → Cancels a b k l → Decides r ((m ≡ a) × (n ≡ b)) → Decides r (Cancels m n k l)
tested a b m n k l r c d = (
  (λ t. let e = d.0 t in subst (λ z. Cancels z n k l) (sym e.0) (subst (λ z. Cancels a z k l) (sym e.1) c)),
  λ h. d.1 (one_pair a b m n k l c h),
)

pub none_fits : (m n k l : ℤ) → IsI128 m → IsI128 n → ExceedMultipliers k l → Cancels m n k l → ⊥
none_fits m n k l f g x c =
    let e = one_pair x.0 x.1 m n k l x.2 c in
    x.3 (subst IsI128 e.0 f, subst IsI128 e.1 g)

-- ---- opposite signs

pub below_above : (k l : ℤ) → k <ℤ pos 0 → pos 0 <ℤ l → (k *ℤ l) <ℤ pos 0
below_above (pos a) l h g = absurd (omega (arith, ints))
below_above (negsuc a) (negsuc b) h g = absurd (omega (arith, ints))
below_above (negsuc a) (pos zero) h g = absurd (omega (arith, ints))
below_above (negsuc a) (pos (suc b)) h g = omega (arith, ints)

pub above_below : (k l : ℤ) → pos 0 <ℤ k → l <ℤ pos 0 → (k *ℤ l) <ℤ pos 0
above_below (negsuc a) l h g = absurd (omega (arith, ints))
above_below (pos zero) l h g = absurd (omega (arith, ints))
above_below (pos (suc a)) (pos b) h g = absurd (omega (arith, ints))
above_below (pos (suc a)) (negsuc b) h g = omega (arith, ints)

pub below_needs : (k l : ℤ) → k <ℤ pos 0 → (k *ℤ l) <ℤ pos 0 → pos 0 <ℤ l
below_needs (pos a) l h g = absurd (omega (arith, ints))
below_needs (negsuc a) (negsuc b) h g = absurd (omega (arith, ints))
below_needs (negsuc a) (pos zero) h g = absurd (omega (arith, ints))
below_needs (negsuc a) (pos (suc b)) h g = omega (arith, ints)

pub above_needs : (k l : ℤ) → pos 0 ≤ℤ k → (k *ℤ l) <ℤ pos 0 → (pos 0 <ℤ k) × (l <ℤ pos 0)
above_needs (negsuc a) l h g = absurd (omega (arith, ints))
above_needs (pos zero) (pos b) h g = absurd (omega (arith, ints))
above_needs (pos zero) (negsuc b) h g = absurd (omega (arith, ints))
above_needs (pos (suc a)) (pos b) h g = absurd (omega (arith, ints))
above_needs (pos (suc a)) (negsuc b) h g = (omega (arith, ints), omega (arith, ints))

-- ---- tests

true_lt : (a b : ℤ) → lt_z a b ≡ true → a <ℤ b
true_lt a b e = grind (arith, ints)

lt_true : (a b : ℤ) → a <ℤ b → lt_z a b ≡ true
lt_true a b h = grind (arith, ints)

false_le : (a b : ℤ) → lt_z a b ≡ false → b ≤ℤ a
false_le a b e = grind (arith, ints)

pub lt_decides : (a b : ℤ) → Decides (lt_z a b) (a <ℤ b)
lt_decides a b = ((λ e. true_lt a b e), λ h. lt_true a b h)

pub opposite_below : (k l : ℤ) → lt_z k (pos 0) ≡ true → Decides (lt_z (pos 0) l) ((k *ℤ l) <ℤ pos 0)
opposite_below k l e = (
  (λ t. below_above k l (true_lt k (pos 0) e) (true_lt (pos 0) l t)),
  λ h. lt_true (pos 0) l (below_needs k l (true_lt k (pos 0) e) h),
)

pub opposite_above : (k l : ℤ) → lt_z (pos 0) k ≡ true → Decides (lt_z l (pos 0)) ((k *ℤ l) <ℤ pos 0)
opposite_above k l e =
    let h = true_lt (pos 0) k e in
    ((λ t. above_below k l h (true_lt l (pos 0) t)), λ g. lt_true l (pos 0) (above_needs k l (omega (arith, ints, h)) g).1)

pub not_opposite : (k l : ℤ) → lt_z k (pos 0) ≡ false → lt_z (pos 0) k ≡ false → Decides (lt_z (pos 0) k) ((k *ℤ l) <ℤ pos 0)
not_opposite k l e f = ((λ t. cc (t, f)), λ g. lt_true (pos 0) k (above_needs k l (false_le k (pos 0) e) g).0)

-- ---- numbers as the code compares them

pub same_signed : (x y : ℤ) → FitsSigned w128 x → FitsSigned w128 y → of_z w128 x ≡ of_z w128 y → x ≡ y
same_signed x y f g e = sym (to_z-of_z w128 x f) ∙ (ap (λ n. to_z w128 n) e ∙ to_z-of_z w128 y g)

pub zero_signed : (z : ℤ) → FitsSigned w128 z → of_z w128 z ≡ 0 → z ≡ pos 0
zero_signed z f e = sym (to_z-of_z w128 z f) ∙ ap (λ n. to_z w128 n) e

pub fits_is : (z : ℤ) → FitsSigned w128 z → IsI128 z
fits_is (pos n) f = let h = f.sfits in (omega (arith, ints), omega (arith, ints))
fits_is (negsuc n) f = let h = f.sfits in (omega (arith, ints), omega (arith, ints))

-- ---- k and l as the code reads them

module _ (m k n l K L : ℤ) (ek : K ≡ k) (el : L ≡ l) where
  pub not_apart : (r : Bool) → Decides r ((K *ℤ L) <ℤ pos 0) → r ≡ false → Cancels m n k l → ⊥
  not_apart r d e c =
      let h : r ≡ true = d.1 (subst (λ z. (z *ℤ L) <ℤ pos 0) (sym ek) (subst (λ z. (k *ℤ z) <ℤ pos 0) (sym el) c.opposite)) in
      cc (e, h)

  read_back : (a b : ℤ) → Cancels a b K L → Cancels a b k l
  read_back a b c = subst (λ z. Cancels a b z l) ek (subst (λ z. Cancels a b K z) el c)

  pub second_tested : (a b : ℤ) (r : Bool) → Cancels a b K L → m ≡ a → Decides r (n ≡ b) → Decides r (Cancels m n k l)
  second_tested a b r c e d = tested a b m n k l r (read_back a b c) (Decides-like r (λ f. (e, f)) (λ p. p.1) d)

  pub first_refused : (a b : ℤ) → Cancels a b K L → (m ≡ a → ⊥) → Cancels m n k l → ⊥
  first_refused a b c h d = h (one_pair a b m n k l (read_back a b c) d).0

  pub beyond : FitsSigned w128 m → FitsSigned w128 n → ExceedMultipliers K L → Cancels m n k l → ⊥
  beyond f g x c = none_fits m n k l (fits_is m f) (fits_is n g) (subst (λ z. ExceedMultipliers z l) ek (subst (λ z. ExceedMultipliers K z) el x)) c

pub signed_decides : (x y : ℤ) → FitsSigned w128 x → FitsSigned w128 y → Decides (nat_eq (of_z w128 x) (of_z w128 y)) (x ≡ y)
signed_decides x y f g = Decides-like (nat_eq (of_z w128 x) (of_z w128 y)) (λ e. same_signed x y f g e) (λ e. ap (of_z w128) e) (Decides-eqb (of_z w128 x) (of_z w128 y))

pub refuses : (P : Type 0) (r : Bool) → r ≡ false → (P → ⊥) → Decides r P
refuses P r e h = ((λ t. cc (t, e)), λ p. absurd (h p))
