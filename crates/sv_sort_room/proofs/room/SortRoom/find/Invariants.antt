use Rattle.sv_sort_room.specs.CellCodes.{code_of}
use Rattle.sv_sort_room.proofs.Seeking.{Sought, seen}
use Rattle.sv_sort_room.proofs.room.SortRoom.find.Given as goal

-- the cell stands nowhere from there on
abbrev pub invariant-loop-at : goal.invariant-loop-at
invariant-loop-at l = Sought code_of l.self.cells l.cell l.at

abbrev pub decreases-loop-at : goal.decreases-loop-at
decreases-loop-at l = seen l.at
