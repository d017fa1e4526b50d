use Rattle.std.proofs.Common.{arith}
use Rattle.sv_sort_room.proofs.CellTrees.{sorts_length}
use Rattle.sv_node_sort.proofs.Fitting.{named_tuple, no_tuple, many_args}
use Rattle.sv_node_sort.proofs.ask.sort_needed.Goals as goal

pub are_parts-requires : goal.are_parts-requires
are_parts-requires c =
    let size = sorts_length c.args.room.now.cells in
    let there = named_tuple _ _ _ c.in-Tup.is c.requires.sort in
    (c.requires.args, omega (arith, size, there))

pub returns-in_default-args : goal.returns-in_default-args
returns-in_default-args c = many_args c.args.room.now c.args.shape c.args.args.now (no_tuple c.args.shape c.in_default.not-Tup) c.in_default-args.len_at_least
