use Rattle.std.proofs.Common.{rules, arith}
use Rattle.sv_first_judge.proofs.PointLemmas.{on_both}
use Rattle.sv_first_judge.proofs.judge.Point.act.Goals as goal

pub returns-in_ok-row-in-Assign : goal.returns-in_ok-row-in-Assign
returns-in_ok-row-in-Assign c =
    on_both _ _ c.assign.result c.assign.ensures.values c.assign.ensures.count
    (λ values count. record { known = search rules; count = omega (arith, count) })
