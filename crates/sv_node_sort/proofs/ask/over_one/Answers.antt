use Rattle.std.proofs.Common.{arith}
use Rattle.sv_sort_room.proofs.CellTrees.{sorts_length}
use Rattle.sv_node_sort.proofs.Fitting.{one_misfits, named_const}
use Rattle.sv_node_sort.proofs.ask.over_one.Goals as goal

pub holds-requires : goal.holds-requires
holds-requires c =
    let size = sorts_length c.args.sorts.now.cells in
    let there = named_const _ _ _ c.in-Const.is c.requires.named.1 in
    (omega (arith, size, there), c.requires.there)

pub returns-in_default : goal.returns-in_default
returns-in_default c = one_misfits _ c.args.shape c.args.a c.requires.named.0 c.in_default.not-Wrap c.in_default.not-Not c.in_default.not-Const c.in_default.not-Get c.in_default.not-Sum
