use Rattle.std.proofs.Common.{◌≡◌, take}
use Rattle.sv_sort_room.specs.SortCells.{sorts_of}
use Rattle.sv_term_room.specs.TermRows.{with_cells}
use Rattle.sv_goal_room.proofs.sorts.add_sorts.Given as goal

-- the first sorts are there
abbrev pub invariant-loop-number : goal.invariant-loop-number
invariant-loop-number l = (sorts_of l.room.cells ≡ take l.number (sorts_of l.sorts.cells)) × (l.room ≡ with_cells l.room.cells l.fn.room)
