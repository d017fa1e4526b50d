use Rattle.sv_node_sort.proofs.Fitting.{entry_answered}
use Rattle.sv_node_sort.proofs.ask.entry_sort.Goals as goal

pub returns-in-Some : goal.returns-in-Some
returns-in-Some c = entry_answered c.args.sorts.now.cells c.args.array c.args.index c.in-Some.own c.answer.result c.is_num.result c.in-Some.ensures c.is_num.ensures c.answer.ensures
