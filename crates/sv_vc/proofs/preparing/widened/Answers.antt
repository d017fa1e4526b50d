use Rattle.std.proofs.Common.{◌∙◌, refl, ap, arith}
use Rattle.sv_term.specs.Banks.{sort, wide}
use Rattle.sv_term.proofs.BankGrowth.{keeps_on, keeps_same}
use Rattle.sv_vc.proofs.StepLemmas.{var_within}
use Rattle.sv_vc.proofs.PreparingSteps.{none_sorts, none_wide, none_named, sorts_within_step, wides_step, names_step, wides_end, names_end}
use Rattle.sv_vc.proofs.preparing.widened.Goals as goal

pub loop-var-init : goal.loop-var-init
loop-var-init c = record {
  kept = keeps_same c.args.bank.now;
  nodes = refl;
  within = none_sorts c.args.bank.now c.new-list.result c.new-list.ensures;
  wides = none_wide c.args.bank.now c.new-list.result _ c.new-list.ensures;
  names = none_named c.new-list.result _ c.new-list.ensures;
}

pub wide_of-requires : goal.wide_of-requires
wide_of-requires c = omega (arith, c.loop-var.invariant.kept.kinds, var_within c.args.bank.now c.args.vars.now c.loop-var.var-index c.var-item.result c.var-item.is c.loop-var-test.true c.requires)

pub loop-var-preserved : goal.loop-var-preserved
loop-var-preserved c = record {
  kept = keeps_on c.loop-var.invariant.kept c.in_ok-sort.ensures.kept;
  nodes = c.in_ok-sort.ensures.nodes ∙ c.loop-var.invariant.nodes;
  within = sorts_within_step c.loop-var.bank c.wide_of.new.bank c.loop-var.list c.push.new.self _ c.in_ok-sort.ensures.kept c.loop-var.invariant.within c.in_ok-sort.ensures.kind.within c.in_ok-push.ensures.ok;
  wides = wides_step c.args.bank.now c.loop-var.bank c.wide_of.new.bank c.args.vars.now c.loop-var.list c.push.new.self _ c.var-item.result c.loop-var.var-index _ c.loop-var.invariant.kept c.in_ok-sort.ensures.kept c.requires c.loop-var.invariant.within c.in_ok-push.ensures.ok c.loop-var-test.true (c.in_ok-sort.ensures.kind.is ∙ ap (λ z. wide (sort c.loop-var.bank z.sort)) c.var-item.is) c.loop-var.invariant.wides;
  names = names_step c.args.vars.now c.loop-var.list c.push.new.self _ c.var-item.result c.loop-var.var-index _ c.in_ok-push.ensures.ok c.loop-var-test.true (ap (λ z. z.name) c.var-item.is) c.loop-var.invariant.names;
}

pub returns : goal.returns
returns c = record {
  kept = c.loop-var.invariant.kept;
  nodes = c.loop-var.invariant.nodes;
  within = c.loop-var.invariant.within;
  wides = wides_end c.args.bank.now c.loop-var.bank c.args.vars.now c.loop-var.list c.loop-var.var-index c.loop-var-test.false c.loop-var.invariant.wides;
  names = names_end c.args.vars.now c.loop-var.list c.loop-var.var-index c.loop-var-test.false c.loop-var.invariant.names;
}
