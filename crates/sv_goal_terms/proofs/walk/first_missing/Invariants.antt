use Rattle.std.proofs.Common.{◌-◌, suc, length, take}
use Rattle.sv_term.specs.Banks.{args}
use Rattle.sv_goal_terms.specs.GoalNumbers.{HaveNumbers}
use Rattle.sv_goal_terms.proofs.walk.first_missing.Given as goal

abbrev pub invariant-loop-arg : goal.invariant-loop-arg
invariant-loop-arg l = HaveNumbers l.numbers (take l.place (args l.node))

abbrev pub decreases-loop-arg : goal.decreases-loop-arg
decreases-loop-arg l = suc (length (args l.node)) - l.place
