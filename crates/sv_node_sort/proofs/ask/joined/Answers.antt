use Rattle.std.proofs.Common.{sym, ◌∙◌}
use Rattle.sv_node_sort.proofs.Fitting.{joined_same}
use Rattle.sv_node_sort.proofs.ask.joined.Goals as goal

pub returns-then-are_same : goal.returns-then-are_same
returns-then-are_same c = joined_same c.args.sorts.now.cells c.args.a c.args.b c.requires.0 (sym c.are_same.ensures ∙ c.if-are_same.true)
