use Rattle.std.proofs.Common.{◌∙◌, ◌<◌, length, subst, arith}
use Rattle.sv_sort_room.specs.SortCells.{SortCells, sorts_of}
use Rattle.sv_sort_room.proofs.CellTrees.{sorts_length}
use Rattle.sv_node_sort.specs.NeededSorts.{IsNext}
use Rattle.sv_node_sort.proofs.Fitting.{next_parts}
use Rattle.sv_node_sort.proofs.tuple.are_parts.Goals as goal

pub loop-number-preserved : goal.loop-number-preserved
loop-number-preserved c =
    let size = sorts_length c.args.room.now.cells in
    let next : IsNext (sorts_of c.args.room.now.cells) c.loop-number.at c.sort_of.result c.in-Some.rest =
    subst (λ (x : SortCells). IsNext (sorts_of x.cells) c.loop-number.at c.sort_of.result c.in-Some.rest) c.sorts.ensures c.in-Some.ensures in
    let within : c.loop-number.number-index < length c.args.args.now = omega (arith, c.loop-number-test.true, c.loop-number.auto.number-index-end) in (
      omega (arith, size, next.within),
      c.loop-number.invariant.1 ∙ next_parts c.args.room.now c.args.args.now c.loop-number.number-index c.loop-number.at c.sort_of.result c.in-Some.rest within c.sort_of.ensures.is next,
    )
