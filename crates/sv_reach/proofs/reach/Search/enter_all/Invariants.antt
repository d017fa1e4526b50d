use Rattle.std.proofs.Common.{◌≡◌, drop}
use Rattle.sv_reach.specs.Searches.{all_entered}
use Rattle.sv_reach.proofs.reach.Search.enter_all.Given as goal

abbrev pub invariant-loop-node : goal.invariant-loop-node
invariant-loop-node l = all_entered (drop l.node-index l.nodes) l.self ≡ all_entered l.nodes l.fn.self
