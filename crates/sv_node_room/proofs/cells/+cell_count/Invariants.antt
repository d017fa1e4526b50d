use Rattle.std.proofs.Common.{◌+◌, ◌*◌}
use Rattle.sv_cert.specs.PlainNodes.{plain_sort}
use Rattle.sv_log_sort.specs.TakenSorts.{cells_of}
use Rattle.sv_node_room.specs.RoomCounts.{cells_of_all}
use Rattle.sv_node_room.proofs.cells.+cell_count.Given as goal

abbrev pub decreases-cell_count : goal.decreases-cell_count
decreases-cell_count l = 2 * cells_of (plain_sort l.sort.now)

abbrev pub decreases-part_cells : goal.decreases-part_cells
decreases-part_cells l = 1 + 2 * cells_of_all l.parts.now
