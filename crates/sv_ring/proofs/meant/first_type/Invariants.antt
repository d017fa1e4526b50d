use Rattle.std.proofs.Common.{◌≡◌, drop}
use Rattle.sv_ring.specs.RingSteps.{first_type, ground}
use Rattle.sv_ring.proofs.meant.first_type.Given as goal

abbrev pub invariant-loop-h : goal.invariant-loop-h
invariant-loop-h l = first_type (ground l.scene) (drop l.h-index l.hits) ≡ first_type (ground l.scene) l.hits
