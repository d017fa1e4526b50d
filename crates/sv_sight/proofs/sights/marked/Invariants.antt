use Rattle.std.proofs.Common.{◌≡◌, ◌++◌, drop}
use Rattle.sv_sight.specs.Sights.{places_from}
use Rattle.sv_sight.proofs.sights.marked.Given as goal

abbrev pub invariant-loop-mark : goal.invariant-loop-mark
invariant-loop-mark l = l.places ++ places_from l.place (drop l.mark-index l.marks) ≡ places_from 0 l.marks
