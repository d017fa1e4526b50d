use Rattle.sv_node_sort.proofs.Fitting.{part_needs}
use Rattle.sv_node_sort.proofs.ask.part_sort.Goals as goal

pub returns-in-Some : goal.returns-in-Some
returns-in-Some c = part_needs c.args.sorts.now.cells c.args.tuple c.args.k c.in-Some.part c.in-Some.ensures
