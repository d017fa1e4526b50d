use Rattle.std.proofs.Common.{◌≡◌, [], replicate}
use Rattle.sv_form_bases.proofs.graph.unlinked.Given as goal

abbrev pub invariant-loop : goal.invariant-loop
invariant-loop l = l.graph.items ≡ replicate l.counter []
