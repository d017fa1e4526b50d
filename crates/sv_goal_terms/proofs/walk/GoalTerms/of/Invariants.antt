use Rattle.std.proofs.Common.{reverse}
use Rattle.sv_goal_terms.proofs.Standing.{Standing, left}
use Rattle.sv_goal_terms.proofs.walk.GoalTerms.of.Given as goal

abbrev pub invariant-loop-top : goal.invariant-loop-top
invariant-loop-top l = Standing l.bank l.fn.goal l.order.items l.numbers.items (reverse l.begun.items)

abbrev pub decreases-loop-top : goal.decreases-loop-top
decreases-loop-top l = left l.numbers.items (reverse l.begun.items)
