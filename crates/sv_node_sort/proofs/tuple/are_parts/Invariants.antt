use Rattle.std.proofs.Common.{◌≡◌, ◌<◌, length, drop}
use Rattle.sv_sort_room.specs.SortCells.{nth_sort, sorts_of}
use Rattle.sv_node_sort.specs.NeededSorts.{has_parts, kinds_of}
use Rattle.sv_node_sort.proofs.tuple.are_parts.Given as goal

-- the sort that the other arguments are to be parts of
abbrev pub invariant-loop-number : goal.invariant-loop-number
invariant-loop-number l = (l.at < length l.room.cells)
    × (has_parts (nth_sort (sorts_of l.room.cells) l.sort) (kinds_of l.room l.args) ≡ has_parts (nth_sort (sorts_of l.room.cells) l.at) (kinds_of l.room (drop l.number-index l.args)))
