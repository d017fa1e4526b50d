use Rattle.std.proofs.Common.{◌≡◌, ◌++◌, drop}
use Rattle.sv_form_bases.specs.BaseEdges.{edges_of}
use Rattle.sv_form_bases.proofs.edges.edges_of.Given as goal

abbrev pub invariant-loop-item : goal.invariant-loop-item
invariant-loop-item l = l.edges ++ edges_of (drop l.item-index l.items) ≡ edges_of l.items
