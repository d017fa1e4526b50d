use Rattle.std.proofs.Common.{ℕ, ◌<◌, get_or}
use Rattle.sv_given.proofs.fact.are_items.Given as goal

abbrev pub invariant-loop-k : goal.invariant-loop-k
invariant-loop-k l = (j : ℕ) → j < l.k-index → get_or l.from j 0 < l.count
