use Rattle.sv_room.proofs.Totals.{cells_more}
use Rattle.sv_room.proofs.count.+cells.Goals as goal

pub cells_of_all-loop-sort-preserved : goal.cells_of_all-loop-sort-preserved
cells_of_all-loop-sort-preserved t c =
    cells_more c.args.sorts.now c.loop-sort.sort-index c.sort-item.result c.loop-sort.cells c.cells_of.result c.saturating_add.result c.saturating_add-cells.result c.loop-sort-test.true
    c.sort-item.is c.loop-sort.invariant c.cells_of.ensures c.saturating_add.ensures c.saturating_add-cells.ensures
