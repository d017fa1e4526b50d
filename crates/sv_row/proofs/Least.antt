-- The quotients by the greatest common divisor are the least multipliers.
use Rattle.std.proofs.Common.{ℕ, zero, suc, ◌*◌, ◌/◌, ◌^◌, ◌<◌, ◌≤◌, ◌≡◌, sym, ap, ◌∙◌, arith}
use Rattle.std.proofs.Math.Nat.{div-mul_cancel, mul_comm}
use Rattle.std.proofs.lemmas.Int.{ints}
use Rattle.std.proofs.lemmas.Nat.Gcd.{IsGcd-swap}
use Rattle.std.specs.Prelude.{unsigned_abs}
use Rattle.std.specs.Int.{IsGcd}
use lib.IntN.{ℤ, pos, negsuc, ◌+ℤ◌, ◌*ℤ◌}
use lib.Signed.{◌≤ℤ◌, ◌<ℤ◌}
use Rattle.sv_num.specs.Range.{IsI128}
use Rattle.sv_log.specs.LogRows.{Cancels}
use Rattle.sv_row.specs.Multipliers.{ExceedMultipliers}
use Rattle.sv_row.proofs.Euclid.{reaches, left_out}

-- the magnitudes of two numbers, one above and one below 0
pub record AreOpposite (k l : ℤ) (a b : ℕ) : Type 0 where
  pub first : 0 < a
  pub second : 0 < b
  pub apart : (k *ℤ l) <ℤ pos 0
  pub sum : (m n : ℕ) → m * a ≡ n * b → pos m *ℤ k +ℤ pos n *ℤ l ≡ pos 0
  pub back : (m n : ℕ) → pos m *ℤ k +ℤ pos n *ℤ l ≡ pos 0 → m * a ≡ n * b

pub opposite : (k l : ℤ) → (k *ℤ l) <ℤ pos 0 → AreOpposite k l (unsigned_abs k) (unsigned_abs l)
opposite (pos a) (pos b) h = absurd (omega (arith, ints))
opposite (negsuc a) (negsuc b) h = absurd (omega (arith, ints))
opposite (pos zero) (negsuc b) h = absurd (omega (arith, ints))
opposite (negsuc a) (pos zero) h = absurd (omega (arith, ints))
opposite (pos (suc a)) (negsuc b) h = record {
  first = omega arith;
  second = omega arith;
  apart = h;
  sum = λ m n e. omega (arith, ints, e);
  back = λ m n e. omega (arith, ints, e);
}
opposite (negsuc a) (pos (suc b)) h = record {
  first = omega arith;
  second = omega arith;
  apart = h;
  sum = λ m n e. omega (arith, ints, e);
  back = λ m n e. omega (arith, ints, e);
}

quotient_positive : (x g a : ℕ) → x * g ≡ a → 0 < a → 0 < x
quotient_positive zero g a e h = absurd (omega (arith, e, h))
quotient_positive (suc x) g a e h = omega arith

divisor_positive : (x g a : ℕ) → x * g ≡ a → 0 < a → 0 < g
divisor_positive x zero a e h = absurd (omega (arith, e, h))
divisor_positive x (suc g) a e h = omega arith

-- b·i reaches by the quotient of b
reached : (x g b i : ℕ) → x * g ≡ b → 0 < g → b ≤ g * i → x ≤ i
reached x g b i e h l = left_out g x i h (omega (arith, e, l))

pub cancels : (k l : ℤ) (a b g : ℕ) → AreOpposite k l a b → IsGcd a b g → Cancels (pos (b / g)) (pos (a / g)) k l
cancels k l a b g o h = record {
  opposite = o.apart;
  first = positive (b / g) (quotient_positive (b / g) g b eb o.second);
  second = positive (a / g) (quotient_positive (a / g) g a ea o.first);
  zero_sum = o.sum (b / g) (a / g) level;
  least = least;
}
  where
    ea : (a / g) * g ≡ a
    ea = div-mul_cancel g h.0

    eb : (b / g) * g ≡ b
    eb = div-mul_cancel g h.1

    level : (b / g) * a ≡ (a / g) * b
    level = let m = ap (λ z. (b / g) * z) ea in let n = ap (λ z. (a / g) * z) eb in omega (arith, m, n)

    positive : (n : ℕ) → 0 < n → pos 0 <ℤ pos n
    positive n p = omega (arith, ints)

    least : (i j : ℤ) → pos 0 <ℤ i → pos 0 <ℤ j → i *ℤ k +ℤ j *ℤ l ≡ pos 0 → (pos (b / g) ≤ℤ i) × (pos (a / g) ≤ℤ j)
    least (negsuc i) j p q e = absurd (omega (arith, ints))
    least (pos i) (negsuc j) p q e = absurd (omega (arith, ints))
    least (pos i) (pos j) p q e =
        let f = o.back i j e in
        let ip : 0 < i = omega (arith, ints) in
        let jp : 0 < j = omega (arith, ints) in
        let g1 = reached (b / g) g b i eb (divisor_positive (b / g) g b eb o.second) (reaches a b g o.second h j i (sym f ∙ mul_comm i a) ip) in
        let g2 = reached (a / g) g a j ea (divisor_positive (a / g) g a ea o.first) (reaches b a g o.first (IsGcd-swap a b g h) i j (f ∙ mul_comm j b) jp) in
        (whole (b / g) i g1, whole (a / g) j g2)
      where
        whole : (x y : ℕ) → x ≤ y → pos x ≤ℤ pos y
        whole x y l = omega (arith, ints, l)

beyond : (n : ℕ) → 2 ^ 127 ≤ n → IsI128 (pos n) → ⊥
beyond n h f = omega (arith, ints, f.1)

pub first_beyond : (k l : ℤ) (a b g : ℕ) → AreOpposite k l a b → IsGcd a b g → 2 ^ 127 ≤ b / g → ExceedMultipliers k l
first_beyond k l a b g o h m = (pos (b / g), pos (a / g), cancels k l a b g o h, λ f. beyond (b / g) m f.0)

pub second_beyond : (k l : ℤ) (a b g : ℕ) → AreOpposite k l a b → IsGcd a b g → 2 ^ 127 ≤ a / g → ExceedMultipliers k l
second_beyond k l a b g o h m = (pos (b / g), pos (a / g), cancels k l a b g o h, λ f. beyond (a / g) m f.1)

pub divisor_is_positive : (k l : ℤ) (a b g : ℕ) → AreOpposite k l a b → IsGcd a b g → 0 < g
divisor_is_positive k l a b g o h = divisor_positive (a / g) g a (div-mul_cancel g h.0) o.first
