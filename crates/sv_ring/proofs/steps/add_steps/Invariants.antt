use Rattle.std.proofs.Common.{◌≡◌, drop, ◌++◌}
use Rattle.sv_ring.specs.RingSteps.{steps_of, ground}
use Rattle.sv_ring.proofs.steps.add_steps.Given as goal

abbrev pub invariant-loop-d : goal.invariant-loop-d
invariant-loop-d l = l.all ++ steps_of (ground l.scene) l.own (drop l.d-index l.list) ≡ l.fn.all ++ steps_of (ground l.scene) l.own l.list
