use Rattle.std.proofs.Common.{◌≡◌, drop}
use Rattle.sv_form_bases.specs.EdgeGraphs.{room_from}
use Rattle.sv_form_bases.proofs.graph.room.Given as goal

abbrev pub invariant-loop-e : goal.invariant-loop-e
invariant-loop-e l = room_from l.room (drop l.e-index l.edges) ≡ room_from 0 l.edges
