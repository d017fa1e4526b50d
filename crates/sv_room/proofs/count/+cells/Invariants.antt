use Rattle.std.proofs.Common.{◌≡◌, map, take}
use Rattle.sv_cert.specs.PlainNodes.{plain_sort, sorts_from}
use Rattle.sv_room.specs.Rooms.{capped}
use Rattle.sv_room.specs.Needs.{cells_of_all}
use Rattle.sv_room.proofs.count.+cells.Given as goal

abbrev pub invariant-cells_of_all-loop-sort : goal.invariant-cells_of_all-loop-sort
invariant-cells_of_all-loop-sort l = l.cells ≡ capped (cells_of_all (sorts_from (map plain_sort (take l.sort-index l.sorts))))
