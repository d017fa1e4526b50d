-- Believed: when two multipliers are too large. Hold it against Rust's documentation of `i128`.
use Rattle.std.specs.Prelude.{ℤ}
use Rattle.sv_num.specs.Range.{IsI128}
use Rattle.sv_log.specs.LogRows.{Cancels}

-- of the least multipliers of k and l one is no `i128`
abbrev pub ExceedMultipliers : ℤ → ℤ → Type 0
ExceedMultipliers k l = (m n : ℤ) × Cancels m n k l × (IsI128 m × IsI128 n → ⊥)
