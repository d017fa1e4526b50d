use Rattle.std.proofs.Common.{◌<◌, ◌≤◌, ◌+◌, ◌++◌, ◌∙◌, length, drop, refl, sym, ap, ap₂, cond, arith}
use Rattle.sv_term.specs.Terms.{Var}
use Rattle.sv_term.specs.Banks.{term, term_list, wide}
use Rattle.sv_term.proofs.BankGrowth.{keeps_on, keeps_same}
use Rattle.sv_term.proofs.BankLists.{list_length}
use Rattle.sv_gcl.specs.Commands.{var_sort}
use Rattle.sv_vc.specs.ConditionWalk.{joint}
use Rattle.sv_vc.specs.CodeStates.{sorts_in, marked}
use Rattle.sv_vc.proofs.Extending.{extends_same, extends_on}
use Rattle.sv_vc.proofs.Kept.{scope_kept, sorts_same}
use Rattle.sv_vc.proofs.ListSteps.{none_within, none_listed, within_step, listed_step}
use Rattle.sv_vc.proofs.JoiningSteps.{old_at, old_within, joint_step, after_step, joint_end, after_end}
use Rattle.sv_vc.proofs.joining.versions.Goals as goal

pub loop-i-init : goal.loop-i-init
loop-i-init c = record {
  kept = keeps_same c.args.bank.now;
  within = none_within c.args.bank.now c.new-now.result c.new-now.ensures;
  terms = none_listed c.args.bank.now c.new-now.result _ c.new-now.ensures;
  next = refl;
  extends = extends_same c.args.scope.now c.args.vars.now;
  size = omega arith;
}

pub version-requires : goal.version-requires
version-requires c = record {
  scope_is = scope_kept c.args.bank.now c.loop-i.bank c.loop-i.invariant.kept c.args.scope.now c.requires.scope_is;
  variable = omega (arith, c.requires.scope_size, c.loop-i-test.true);
  within = old_within c.args.bank.now c.loop-i.bank c.args.env.now c.loop-i.i c.loop-i.invariant.kept c.requires.within (omega arith);
}

pub loop-i-preserved : goal.loop-i-preserved
loop-i-preserved c =
    let lt : c.loop-i.i < length c.args.env.now = omega arith in
    let far : c.loop-i.i < length (term_list c.args.bank.now c.args.env.now) = omega (arith, lt, list_length c.args.bank.now c.args.env.now) in
    record {
      kept = keeps_on c.loop-i.invariant.kept c.in_ok-one.ensures.kept;
      within = within_step c.loop-i.bank c.version.new.bank c.loop-i.now c.push.new.self c.in_ok-one.one c.in_ok-one.ensures.kept c.loop-i.invariant.within c.in_ok-one.ensures.stands.within c.in_ok-push.ensures.ok;
      terms =
          ap (λ z. z ++ joint (sorts_in c.args.bank.now c.args.scope.now) (marked c.args.marks.now) (c.loop-i.i + 1) (drop (c.loop-i.i + 1) (term_list c.args.bank.now c.args.env.now)) (length c.version.new.vars)) (listed_step c.loop-i.bank c.version.new.bank c.loop-i.now c.push.new.self c.in_ok-one.one c.in_ok-one.ensures.kept c.loop-i.invariant.within c.in_ok-push.ensures.ok)
          ∙ joint_step (sorts_in c.args.bank.now c.args.scope.now) (marked c.args.marks.now) (term_list c.loop-i.bank c.loop-i.now) (term_list c.args.bank.now c.args.env.now) _ c.loop-i.i (length c.loop-i.vars) (length c.version.new.vars) (term c.version.new.bank c.in_ok-one.one) far
          (c.in_ok-one.ensures.stands.is ∙ ap₂ (λ σs y. cond (marked c.args.marks.now c.loop-i.i) (Var (length c.loop-i.vars) (wide (var_sort σs c.loop-i.i))) y) (sorts_same c.args.bank.now c.loop-i.bank c.loop-i.invariant.kept c.args.scope.now c.requires.scope_is) (sym (old_at c.args.bank.now c.loop-i.bank c.args.env.now c.loop-i.i c.loop-i.invariant.kept c.requires.within lt)))
          c.in_ok-one.ensures.next c.loop-i.invariant.terms;
      next = after_step (sorts_in c.args.bank.now c.args.scope.now) (marked c.args.marks.now) (term_list c.args.bank.now c.args.env.now) c.loop-i.i (length c.loop-i.vars) (length c.version.new.vars) _ far c.in_ok-one.ensures.next c.loop-i.invariant.next;
      extends = extends_on c.loop-i.invariant.extends c.in_ok-one.ensures.extends;
      size = omega (arith, c.loop-i.invariant.size, c.in_ok-one.ensures.size);
    }

pub returns : goal.returns
returns c =
    let far : length (term_list c.args.bank.now c.args.env.now) ≤ c.loop-i.i = omega (arith, c.loop-i-test.false, list_length c.args.bank.now c.args.env.now) in
    record {
      kept = c.loop-i.invariant.kept;
      within = c.loop-i.invariant.within;
      terms = joint_end (sorts_in c.args.bank.now c.args.scope.now) (marked c.args.marks.now) (term_list c.loop-i.bank c.loop-i.now) (term_list c.args.bank.now c.args.env.now) _ c.loop-i.i (length c.loop-i.vars) far c.loop-i.invariant.terms;
      next = after_end (sorts_in c.args.bank.now c.args.scope.now) (marked c.args.marks.now) (term_list c.args.bank.now c.args.env.now) c.loop-i.i (length c.loop-i.vars) _ far c.loop-i.invariant.next;
      extends = c.loop-i.invariant.extends;
      size = omega (arith, c.loop-i.invariant.size, c.loop-i.auto.i-end);
    }
