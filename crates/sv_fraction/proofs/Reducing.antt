-- Both numbers divided by their greatest common divisor are in lowest terms.
use Rattle.std.proofs.Common.{ℕ, zero, suc, ◌+◌, ◌-◌, ◌*◌, ◌/◌, ◌^◌, ◌<◌, ◌≤◌, ◌≡◌, refl, sym, ap, ap₂, ◌∙◌, subst, arith}
use Rattle.std.proofs.Math.Nat.{div-mul_cancel, le_of_dvd, pos_of_dvd_of_pos, mul-dvd-mul_left, mul_comm}
use Rattle.std.proofs.lemmas.Nat.{div-mul-add}
use Rattle.std.proofs.lemmas.Int.{ints, unsigned_abs-mul, to_z-of_z}
use Rattle.std.specs.Int.{IsGcd, int_div_euclid, ◌∣◌}
use Rattle.std.specs.Prelude.{unsigned_abs, FitsSigned}
use mir.Syntax.{w128}
use mir.Val.{to_z, of_z}
use lib.IntN.{ℤ, pos, negsuc, ◌*ℤ◌, *ℤ_comm}
use lib.Signed.{◌≤ℤ◌, ◌<ℤ◌}
use Rattle.sv_fraction.specs.Fractions.{ratio, IsReduced, IsSame}
use Rattle.sv_fraction.proofs.Integers.{exchanged}

quotient : (n g k : ℕ) → 0 < g → suc k * g ≡ suc n → n / g ≡ k
quotient n g k p e = ap (λ z. z / g) same ∙ div-mul-add k g (g - 1) (omega (arith, p))
  where
    same : n ≡ k * g + (g - 1)
    same = omega (arith, e, p)

below_zero : (n g q : ℕ) → 0 < g → q * g ≡ suc n → negsuc (n / g) *ℤ pos g ≡ negsuc n
below_zero n g zero p e = absurd (omega (arith, e))
below_zero n g (suc k) p e = ap (λ z. negsuc z *ℤ pos g) (quotient n g k p e) ∙ product
  where
    product : negsuc k *ℤ pos g ≡ negsuc n
    product = omega (arith, ints, e)

-- the quotient by a divisor is exact
pub quotient_is : (t : ℤ) (g : ℕ) → 0 < g → g ∣ unsigned_abs t → int_div_euclid t (pos g) *ℤ pos g ≡ t
quotient_is (pos n) g p h = ap pos (div-mul_cancel g h)
quotient_is (negsuc n) g p h = below_zero n g (suc n / g) p (div-mul_cancel g h)

pub divisor_positive : (u : ℤ) (g : ℕ) → pos 0 <ℤ u → g ∣ unsigned_abs u → 0 < g
divisor_positive (pos n) g h d = pos_of_dvd_of_pos d (omega (arith, ints))
divisor_positive (negsuc n) g h d = absurd (omega (arith, ints))

pub divisor_bound : (u : ℤ) (g : ℕ) → pos 0 <ℤ u → g ∣ unsigned_abs u → pos g ≤ℤ u
divisor_bound (pos n) g h d = let p : 0 < n = omega (arith, ints) in let l = le_of_dvd p d in omega (arith, ints, l)
divisor_bound (negsuc n) g h d = absurd (omega (arith, ints))

above_zero : (z u : ℤ) (g : ℕ) → pos 0 <ℤ u → z *ℤ pos g ≡ u → pos 0 <ℤ z
above_zero (pos zero) u g h e = absurd (omega (arith, ints))
above_zero (pos (suc n)) u g h e = omega (arith, ints)
above_zero (negsuc n) u g h e = absurd (omega (arith, ints))

magnitude_positive : (z : ℤ) → pos 0 <ℤ z → 0 < unsigned_abs z
magnitude_positive (pos n) h = omega (arith, ints)
magnitude_positive (negsuc n) h = absurd (omega (arith, ints))

divided : (x t : ℤ) (g d : ℕ) → x *ℤ pos g ≡ t → d ∣ unsigned_abs x → (g * d) ∣ unsigned_abs t
divided x t g d e h = subst (λ z. (g * d) ∣ z) (mul_comm g (unsigned_abs x) ∙ (sym (unsigned_abs-mul x (pos g)) ∙ ap unsigned_abs e)) (mul-dvd-mul_left d g h)

pub lowest : (t u x y : ℤ) (g : ℕ) → pos 0 <ℤ u → IsGcd (unsigned_abs t) (unsigned_abs u) g → x *ℤ pos g ≡ t → y *ℤ pos g ≡ u → IsReduced (ratio x y)
lowest t u x y g h c e f = record {
  positive = above_zero y u g h f;
  lowest = λ d k l.
      let p = divisor_positive u g h c.1 in
      let m = le_of_dvd p (c.2 (g * d) (divided x t g d e k) (divided y u g d f l)) in
      one g d p m (pos_of_dvd_of_pos l (magnitude_positive y (above_zero y u g h f)));
}
  where
    one : (g d : ℕ) → 0 < g → g * d ≤ g → 0 < d → d ≡ 1
    one g zero p m q = absurd (omega (arith, q))
    one g (suc zero) p m q = refl
    one g (suc (suc d)) p m q = absurd (omega (arith, m, p))

pub same_by : (t u x y : ℤ) (g : ℕ) → x *ℤ pos g ≡ t → y *ℤ pos g ≡ u → IsSame (ratio x y) (ratio t u)
same_by t u x y g e f =
    ap (λ z. x *ℤ z) (sym f) ∙ (ap (λ z. x *ℤ z) (*ℤ_comm y (pos g)) ∙ (exchanged x (pos g) y
    ∙ (ap (λ z. pos g *ℤ z) (*ℤ_comm x y) ∙ (exchanged (pos g) y x ∙ (ap (λ z. y *ℤ z) (*ℤ_comm (pos g) x ∙ e) ∙ *ℤ_comm y t)))))

-- what an `i128` is read as
pub held : (t u : ℤ) → FitsSigned w128 t → FitsSigned w128 u → ratio (to_z w128 (of_z w128 t)) (to_z w128 (of_z w128 u)) ≡ ratio t u
held t u f g = ap₂ ratio (to_z-of_z w128 t f) (to_z-of_z w128 u g)

pub result_is : (t u x y : ℤ) (g a b : ℕ) → pos 0 <ℤ u → a ≡ unsigned_abs t → b ≡ unsigned_abs u → IsGcd a b g
    → x ≡ int_div_euclid t (pos g) → y ≡ int_div_euclid u (pos g) → IsReduced (ratio x y) × IsSame (ratio x y) (ratio t u)
result_is t u x y g a b h e f c i j =
    let d : IsGcd (unsigned_abs t) (unsigned_abs u) g = subst (λ n. IsGcd n (unsigned_abs u) g) e (subst (λ n. IsGcd a n g) f c) in
    let p = divisor_positive u g h d.1 in
    let k : x *ℤ pos g ≡ t = ap (λ z. z *ℤ pos g) i ∙ quotient_is t g p d.0 in
    let l : y *ℤ pos g ≡ u = ap (λ z. z *ℤ pos g) j ∙ quotient_is u g p d.1 in
    (lowest t u x y g h d k l, same_by t u x y g k l)

fits_below : (u : ℤ) (g : ℕ) → FitsSigned w128 u → pos g ≤ℤ u → FitsSigned w128 (pos g)
fits_below (pos n) g f h = record { sfits = omega (arith, ints, f.sfits) }
fits_below (negsuc n) g f h = absurd (omega (arith, ints))

-- what is known of the divisor
pub record IsDivisor (g : ℕ) : Type 0 where
  pub positive : 0 < g
  pub small : g < 2 ^ 127
  pub fits : FitsSigned w128 (pos g)

pub divisor_is : (u : ℤ) (g a b : ℕ) → pos 0 <ℤ u → FitsSigned w128 u → b ≡ unsigned_abs u → IsGcd a b g → IsDivisor g
divisor_is u g a b h f e c =
    let d = subst (λ n. g ∣ n) e c.1 in
    let i = fits_below u g f (divisor_bound u g h d) in
    record { positive = divisor_positive u g h d; small = i.sfits; fits = i }
