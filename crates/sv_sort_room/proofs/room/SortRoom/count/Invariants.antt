use Rattle.std.proofs.Common.{◌≡◌, ◌+◌, ◌<◌, ◌≤◌, length}
use Rattle.sv_term.specs.Sorts.{parts, count}
use Rattle.sv_sort_room.specs.SortCells.{sorts_of, nth_sort}
use Rattle.sv_sort_room.proofs.room.SortRoom.count.Given as goal

-- the parts that are left to count
abbrev pub invariant-loop-rest : goal.invariant-loop-rest
invariant-loop-rest l = (l.at < length l.self.cells) × (l.count + l.at ≤ l.number)
    × (l.count + count (parts (nth_sort (sorts_of l.self.cells) l.at)) ≡ count (parts (nth_sort (sorts_of l.self.cells) l.number)))

abbrev pub decreases-loop-rest : goal.decreases-loop-rest
decreases-loop-rest l = l.at
