use Rattle.std.proofs.Common.{◌+◌, length}
use Rattle.sv_reach.proofs.Searching.{unmet}
use Rattle.sv_reach.proofs.Following.{Follows}
use Rattle.sv_reach.proofs.reach.reached.Given as goal

abbrev pub invariant-nodes : goal.invariant-nodes
invariant-nodes l = Follows l.graph l.starts l.search

abbrev pub decreases-nodes : goal.decreases-nodes
decreases-nodes l = unmet l.search.met + length l.search.waiting
