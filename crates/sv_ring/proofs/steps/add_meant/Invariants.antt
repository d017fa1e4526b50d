use Rattle.std.proofs.Common.{◌≡◌, drop, ◌++◌}
use Rattle.std.specs.List.{filter_map}
use Rattle.sv_ring.specs.RingSteps.{meant, ground}
use Rattle.sv_ring.proofs.steps.add_meant.Given as goal

abbrev pub invariant-loop-p : goal.invariant-loop-p
invariant-loop-p l = l.reached ++ filter_map (meant (ground l.scene) l.own) (drop l.p-index l.pieces) ≡ l.fn.reached ++ filter_map (meant (ground l.scene) l.own) l.pieces
