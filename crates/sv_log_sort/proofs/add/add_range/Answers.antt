use Rattle.std.proofs.Common.{arith}
use Rattle.sv_sort_room.specs.declared.cell.Cell.TheVariants as k
use Rattle.sv_log_sort.proofs.Growing.{grows_one, grows_none}
use Rattle.sv_log_sort.proofs.add.add_range.Goals as goal

pub returns-then-has_bits-clause-grows : goal.returns-then-has_bits-clause-grows
returns-then-has_bits-clause-grows c = grows_one _ _ (k.Num c.args.range) 1 (omega arith) c.add_sort.ensures.kept c.add_sort.ensures.sorts c.add_sort.ensures.rest c.add_sort.ensures.terms

pub returns-else-has_bits-clause-grows : goal.returns-else-has_bits-clause-grows
returns-else-has_bits-clause-grows c = grows_none c.args.room.now 1
