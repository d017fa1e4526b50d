use Rattle.std.proofs.Common.{◌≤◌, ◌-◌, suc, length}
use Rattle.sv_term.specs.Banks.{args}
use Rattle.sv_goal_room.proofs.node.arg_count.Given as goal

abbrev pub invariant-loop-count : goal.invariant-loop-count
invariant-loop-count l = l.count ≤ length (args l.node)

abbrev pub decreases-loop-count : goal.decreases-loop-count
decreases-loop-count l = suc (length (args l.node)) - l.count
