use Rattle.std.proofs.Common.{◌≡◌, drop, ◌++◌}
use Rattle.sv_ring.specs.RingSteps.{fields_reach, ground}
use Rattle.sv_ring.proofs.steps.fields_reach.Given as goal

abbrev pub invariant-loop-m : goal.invariant-loop-m
invariant-loop-m l = l.reached ++ fields_reach (ground l.scene) l.own (drop l.m-index l.fields) ≡ fields_reach (ground l.scene) l.own l.fields
