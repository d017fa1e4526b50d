use Rattle.std.proofs.Common.{◌≡◌, ◌++◌, drop}
use Rattle.sv_form_bases.specs.BaseEdges.{base_edges}
use Rattle.sv_form_bases.proofs.edges.add_bases.Given as goal

abbrev pub invariant-loop-b : goal.invariant-loop-b
invariant-loop-b l = l.edges ++ base_edges l.fn.name (drop l.b-index l.bases) ≡ l.fn.edges ++ base_edges l.fn.name l.bases
