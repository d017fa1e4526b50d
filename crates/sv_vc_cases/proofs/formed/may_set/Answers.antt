use Rattle.std.proofs.Common.{◌<◌, ◌∙◌, length, sym, ap, arith}
use Rattle.sv_term.specs.Banks.{wide}
use Rattle.sv_vc.proofs.StepLemmas.{var_within}
use Rattle.sv_vc_cases.proofs.FormedTests.{kin_here}
use Rattle.sv_vc_cases.proofs.formed.may_set.Goals as goal

pub are_kin-requires-clause-one : goal.are_kin-requires-clause-one
are_kin-requires-clause-one c = c.sort_of.ensures.kind.within

pub are_kin-requires-clause-other : goal.are_kin-requires-clause-other
are_kin-requires-clause-other c =
    let lt : c.args.x < length c.args.vars.now = omega arith in
    var_within c.args.bank.now c.args.vars.now c.args.x c.variable_at.result c.variable_at.ensures lt c.requires

pub returns : goal.returns
returns c h =
    let lt : c.args.x < length c.args.vars.now = omega arith in
    record {
      variable = lt;
      within = omega arith;
      kin = kin_here c.args.bank.now c.args.vars.now c.args.x c.variable_at.result _ c.variable_at.ensures lt (ap wide (sym c.sort_of.ensures.kind.is) ∙ c.are_kin.ensures h);
    }
