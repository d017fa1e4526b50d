use Rattle.std.proofs.Common.{drop}
use Rattle.sv_pattern.specs.NodeOpenings.{IsFollowing}
use Rattle.sv_pattern.proofs.walk.follow.Given as goal

abbrev pub invariant-loop-step : goal.invariant-loop-step
invariant-loop-step g l = IsFollowing (g.T.TermNumbers.trees l.terms) l.steps l.sign l.premises l.n (drop l.step-index l.steps) l.left l.registers.items
