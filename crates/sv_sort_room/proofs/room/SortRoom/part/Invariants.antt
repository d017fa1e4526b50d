use Rattle.std.proofs.Common.{◌≡◌, ◌+◌, ◌<◌, ◌≤◌, length}
use Rattle.sv_term.specs.Sorts.{parts, count, sort_at}
use Rattle.sv_sort_room.specs.SortCells.{sorts_of, nth_sort}
use Rattle.sv_sort_room.proofs.room.SortRoom.part.Given as goal

-- the part that is sought, among those that are left
abbrev pub invariant-loop-first : goal.invariant-loop-first
invariant-loop-first l = (l.at < length l.self.cells)
    × (l.left + count (parts (nth_sort (sorts_of l.self.cells) l.number)) ≡ l.k + count (parts (nth_sort (sorts_of l.self.cells) l.at)))
    × (sort_at l.k (parts (nth_sort (sorts_of l.self.cells) l.number)) ≡ sort_at l.left (parts (nth_sort (sorts_of l.self.cells) l.at)))

abbrev pub decreases-loop-first : goal.decreases-loop-first
decreases-loop-first l = l.at
