use Rattle.std.proofs.Common.{ℕ, ◌<◌, get_or}
use Rattle.sv_type.specs.TypeParts.{ContainsType}
use Rattle.sv_type.proofs.types.Types.+contains.Given as goal

abbrev pub decreases-contains : goal.decreases-contains
decreases-contains l = l.t

-- none of the fields so far contains the type
abbrev pub invariant-loop-field : goal.invariant-loop-field
invariant-loop-field l = (k : ℕ) → k < l.field-index → ContainsType l.self (get_or l.field-items k 0) l.part → ⊥
