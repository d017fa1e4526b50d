use Rattle.std.proofs.Common.{rules}
use Rattle.sv_allowed.proofs.Deciding.{combination_is}
use Rattle.sv_allowed.proofs.rows.is_combination.Goals as goal

pub returns : goal.returns
returns c =
    let is = combination_is c.args.force.now.items c.args.first c.args.second in
    let d = c.is_combined.ensures in
    let a = c.in-Some.ensures in
    let b = c.in-Some-row.ensures in
    (λ e. search (rules, is, d, a, b), λ h. search (rules, is, d, a, b))
