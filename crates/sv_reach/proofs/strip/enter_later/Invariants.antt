use Rattle.std.proofs.Common.{◌≡◌, ◌+◌, length}
use Rattle.sv_reach.proofs.strip.enter_later.Given as goal

abbrev pub invariant-loop-node : goal.invariant-loop-node
invariant-loop-node l = length l.steps ≡ length l.fn.steps + l.node-index
