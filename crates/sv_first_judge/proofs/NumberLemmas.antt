-- Which sums fit an `i128`.
use Rattle.std.proofs.Common.{◌≡◌, ◌+◌, ◌<◌, ◌^◌, ℤ, negsuc, ◌+ℤ◌, ◌*ℤ◌, neg_ℤ, arith}
use Rattle.std.specs.Int.RustNames.{unsigned_abs}
use Rattle.std.proofs.lemmas.Int.{ints}
use Rattle.sv_first_judge.specs.Weights.{weight_limit}
use Rattle.sv_num.specs.Range.{IsI128}

range_of : (z : ℤ) → unsigned_abs z < 2 ^ 127 → IsI128 z
range_of z h = (omega (arith, ints), omega (arith, ints))

pub fits_number : (z : ℤ) → unsigned_abs z < weight_limit → IsI128 z
unfolding weight_limit
fits_number z h = range_of z h

pub fits_sum : (a b : ℤ) → unsigned_abs a + unsigned_abs b < weight_limit → IsI128 (a +ℤ b)
fits_sum a b h = fits_number (a +ℤ b) (omega (arith, ints))

pub times_minus_one : (a : ℤ) → a *ℤ negsuc 0 ≡ neg_ℤ a
times_minus_one a = omega (arith, ints)
