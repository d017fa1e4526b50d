use Rattle.std.proofs.Common.{arith}
use Rattle.sv_node_room.proofs.Counting.{cells_bound}
use Rattle.sv_node_room.proofs.count.sort_count.Goals as goal

pub cell_count-requires : goal.cell_count-requires
cell_count-requires c =
    let bound = cells_bound c.args.node.now.parts c.as_slice-part-items.result.now c.loop-part.part-index c.part-item.result c.in-Sort.sort c.as_slice-part-items.ensures c.args.node.now.short
    c.loop-part.invariant c.loop-part-test.true c.part-item.is c.in-Sort.is in
    omega (arith, bound)

pub overflow_add-result : goal.overflow_add-result
overflow_add-result c =
    let bound = cells_bound c.args.node.now.parts c.as_slice-part-items.result.now c.loop-part.part-index c.part-item.result c.in-Sort.sort c.as_slice-part-items.ensures c.args.node.now.short
    c.loop-part.invariant c.loop-part-test.true c.part-item.is c.in-Sort.is in
    omega (arith, bound, c.cell_count.ensures)
