-- Believed: the integers that an `i128` holds. Hold it against Rust's documentation of `i128`.
use Rattle.std.specs.Prelude.{◌<ℤ◌, ◌≤ℤ◌, ◌^◌, neg_ℤ, pos, ℤ}

-- at least −2^127, and below 2^127
abbrev pub IsI128 : ℤ → Type 0
IsI128 z = (neg_ℤ (pos (2 ^ 127)) ≤ℤ z) × (z <ℤ pos (2 ^ 127))
