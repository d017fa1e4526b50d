-- The Euclidean quotient by a positive number rounds down; one more, where there is a remainder, rounds up.
use Rattle.std.proofs.Common.{arith, ◌≡◌, ℕ, ℤ, pos, negsuc, ◌+ℤ◌, ◌<ℤ◌, ◌≤◌, ◌<◌, ◌*◌, ◌+◌, ◌/◌, suc, zero}
use Rattle.std.proofs.lemmas.Int.{ints}
use Rattle.std.specs.Int.{int_div_euclid, int_rem_euclid}
use Rattle.sv_num.specs.Rounding.{IsCeiling, IsFloor}

pub floor_is : (a b : ℤ) → pos 0 <ℤ b → IsFloor a b (int_div_euclid a b)
floor_is (pos a) (pos b) p = omega (arith, ints)
floor_is (negsuc a) (pos b) p = omega (arith, ints)
floor_is a (negsuc b) p = omega (arith, ints)

pub ceiling_is : (a b : ℤ) → pos 0 <ℤ b → int_rem_euclid a b ≡ pos 0 → IsCeiling a b (int_div_euclid a b)
ceiling_is (pos a) (pos b) p r = omega (arith, ints)
ceiling_is (negsuc a) (pos b) p r = omega (arith, ints)
ceiling_is a (negsuc b) p r = omega (arith, ints)

below_step : (a b k : ℕ) → suc k * b ≤ a → suc a < suc k * b + b → IsCeiling (negsuc a) (pos b) (negsuc k)
below_step a b k l h = omega (arith, ints)

-- for the quotient k of the magnitude less one
ceiling_below : (a b k : ℕ) → k * b ≤ a → suc a < k * b + b → IsCeiling (negsuc a) (pos b) (negsuc k +ℤ pos 1)
ceiling_below a b zero l h = omega (arith, ints)
ceiling_below a b (suc k) l h = let e : negsuc (suc k) +ℤ pos 1 ≡ negsuc k = omega (arith, ints) in rw e (below_step a b k l h)

pub ceiling_above : (a b : ℤ) → pos 0 <ℤ b → (int_rem_euclid a b ≡ pos 0 → ⊥) → IsCeiling a b (int_div_euclid a b +ℤ pos 1)
ceiling_above (pos a) (pos b) p r = grind (arith, ints)
ceiling_above (negsuc a) (pos b) p r = ceiling_below a b (a / b) (omega arith) (grind (arith, ints))
ceiling_above a (negsuc b) p r = omega (arith, ints)
