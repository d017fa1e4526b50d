use Rattle.std.proofs.Common.{◌≡◌, ◌++◌, drop, map, reverse, [], slice_index_or}
use Rattle.sv_lines.proofs.lines.lists_of.Given as goal

abbrev pub invariant-loop-b : goal.invariant-loop-b
invariant-loop-b l = l.out ++ map (λ b. slice_index_or l.orders b []) (drop l.b-index l.b-items) ≡ map (λ b. slice_index_or l.orders b []) (reverse l.own)
