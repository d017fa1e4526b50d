use Rattle.std.proofs.Common.{ℕ, ◌<◌, get_or}
use Rattle.sv_type.specs.TypeParts.{IsFlat}
use Rattle.sv_type.proofs.types.Types.+is_flat.Given as goal

abbrev pub decreases-is_flat : goal.decreases-is_flat
decreases-is_flat l = l.t

-- each of the fields so far is flat
abbrev pub invariant-loop-field : goal.invariant-loop-field
invariant-loop-field l = (k : ℕ) → k < l.field-index → IsFlat l.self (get_or l.field-items k 0)
