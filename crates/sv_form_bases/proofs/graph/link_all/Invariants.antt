use Rattle.std.proofs.Common.{◌≡◌, drop}
use Rattle.sv_form_bases.specs.EdgeGraphs.{linked_all}
use Rattle.sv_form_bases.proofs.graph.link_all.Given as goal

abbrev pub invariant-loop-e : goal.invariant-loop-e
invariant-loop-e l = linked_all (drop l.e-index l.edges) l.graph.items ≡ linked_all l.edges l.fn.graph.items
