use Rattle.std.proofs.Common.{◌≡◌, drop}
use Rattle.sv_ring.specs.RingSteps.{type_from}
use Rattle.sv_ring.proofs.meant.type_of_name.Given as goal

abbrev pub invariant-loop-d : goal.invariant-loop-d
invariant-loop-d l = type_from l.name l.number (drop l.d-index l.list) ≡ type_from l.name l.first l.list
