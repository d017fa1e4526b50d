use Rattle.std.proofs.Common.{◌<◌, ◌+◌, ◌++◌, ◌∙◌, drop, length, ap, arith}
use Rattle.sv_term.specs.Terms.{Var}
use Rattle.sv_term.specs.Banks.{sort_list, term, term_list}
use Rattle.sv_term.proofs.BankGrowth.{keeps_on, keeps_same}
use Rattle.sv_term.proofs.BankLists.{sort_list_length}
use Rattle.sv_vc.specs.ConditionWalk.{own}
use Rattle.sv_vc.specs.CodeStates.{sorts_of}
use Rattle.sv_vc.proofs.ListSteps.{none_within, none_listed, within_step, listed_step}
use Rattle.sv_vc.proofs.StepLemmas.{sorts_long, var_within, var_kind}
use Rattle.sv_vc.proofs.PreparingSteps.{own_step, own_end}
use Rattle.sv_vc.proofs.preparing.own_terms.Goals as goal

pub loop-i-init : goal.loop-i-init
loop-i-init c = record {
  kept = keeps_same c.args.bank.now;
  within = none_within c.args.bank.now c.new-env.result c.new-env.ensures;
  terms = none_listed c.args.bank.now c.new-env.result _ c.new-env.ensures;
  size = omega arith;
}

pub added-requires : goal.added-requires
added-requires c =
    let lt : c.loop-i.i < length c.args.vars.now = omega arith in
    omega (arith, c.loop-i.invariant.kept.kinds, var_within c.args.bank.now c.args.vars.now c.loop-i.i c.variable_at.result c.variable_at.ensures lt c.requires)

pub loop-i-preserved : goal.loop-i-preserved
loop-i-preserved c =
    let lt : c.loop-i.i < length c.args.vars.now = omega arith in
    let far : c.loop-i.i < length (sort_list c.args.bank.now (sorts_of c.args.vars.now)) = omega (arith, lt, sort_list_length c.args.bank.now (sorts_of c.args.vars.now), sorts_long c.args.vars.now) in
    let old = c.loop-i.invariant.kept.sort_trees c.variable_at.result.sort (var_within c.args.bank.now c.args.vars.now c.loop-i.i c.variable_at.result c.variable_at.ensures lt c.requires) in
    record {
      kept = keeps_on c.loop-i.invariant.kept c.in_ok-added.ensures.kept;
      within = within_step c.loop-i.bank c.added.new.bank c.loop-i.env c.push.new.self c.in_ok-added.field-0 c.in_ok-added.ensures.kept c.loop-i.invariant.within c.in_ok-added.ensures.stands.within c.in_ok-push.ensures.ok;
      terms =
          ap (λ z. z ++ own (drop (c.loop-i.i + 1) (sort_list c.args.bank.now (sorts_of c.args.vars.now))) (c.loop-i.i + 1)) (listed_step c.loop-i.bank c.added.new.bank c.loop-i.env c.push.new.self c.in_ok-added.field-0 c.in_ok-added.ensures.kept c.loop-i.invariant.within c.in_ok-push.ensures.ok)
          ∙ own_step (term_list c.loop-i.bank c.loop-i.env) (sort_list c.args.bank.now (sorts_of c.args.vars.now)) c.loop-i.i (term c.added.new.bank c.in_ok-added.field-0) _ far
          (c.in_ok-added.ensures.stands.is ∙ ap (Var c.loop-i.i) (old ∙ var_kind c.args.bank.now c.args.vars.now c.loop-i.i c.variable_at.result c.variable_at.ensures lt)) c.loop-i.invariant.terms;
      size = omega (arith, c.loop-i.invariant.size, c.in_ok-added.ensures.size);
    }

pub returns : goal.returns
returns c = record {
  kept = c.loop-i.invariant.kept;
  within = c.loop-i.invariant.within;
  terms = own_end (term_list c.loop-i.bank c.loop-i.env) (sort_list c.args.bank.now (sorts_of c.args.vars.now)) c.loop-i.i _ (omega (arith, c.loop-i-test.false, sort_list_length c.args.bank.now (sorts_of c.args.vars.now), sorts_long c.args.vars.now)) c.loop-i.invariant.terms;
  size = omega (arith, c.loop-i.invariant.size, c.loop-i.auto.i-end);
}
