use Rattle.std.proofs.Common.{◌≡◌, drop, ◌++◌}
use Rattle.sv_ring.specs.RingSteps.{steps_inside, ground}
use Rattle.sv_ring.proofs.steps.steps_inside.Given as goal

abbrev pub invariant-loop-own : goal.invariant-loop-own
invariant-loop-own l = l.all ++ steps_inside (ground l.scene) l.c (drop l.own-index l.contracts) ≡ steps_inside (ground l.scene) 0 l.contracts
