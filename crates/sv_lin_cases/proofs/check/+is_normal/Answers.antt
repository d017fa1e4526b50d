use Rattle.std.proofs.Common.{true, ◌≡◌, ap, rules}
use Rattle.std.specs.Prelude.{pos}
use mir.Val.{of_z}
use mir.Syntax.{w128}
use Rattle.sv_lin_cases.proofs.NormalRowTests.{nothing_is_normal, more_is_normal}
use Rattle.sv_lin_cases.proofs.check.+is_normal.Goals as goal

pub returns-in-None : goal.returns-in-None
returns-in-None t c h = nothing_is_normal c.args.parts.now c.in-None.ensures.cases

pub returns-else-not-is_before : goal.returns-else-not-is_before
returns-else-not-is_before t c h =
    let b : c.is_before.result ≡ true = search rules in
    more_is_normal c.in-Some.field-0-0.now c.args.parts.now c.in-Some.rest.now c.in-Some.ensures.cases.0 (λ e. c.if-factor-eq0.false (ap (of_z w128) e)) (λ r. c.is_before.ensures b r) (c.is_normal.ensures h)
