use Rattle.std.proofs.Common.{◌≡◌, ◌+◌, ◌∙◌, ◌++◌, ◌∷◌, [], Some, cond, take, sym, ap, ap₂, subst, arith}
use Rattle.std.specs.BTreeMap.{get, is_at}
use Rattle.std.specs.Map.{lookup}
use Rattle.sv_core.specs.contracts.label.LabelOrd.TheImpl.{ghosts as label_ord}
use Rattle.sv_term.specs.Terms.{And}
use Rattle.sv_term.specs.Banks.{IsBool, term}
use Rattle.sv_term.proofs.BankGrowth.{keeps_on, keeps_same, bool_kept}
use Rattle.sv_vc.specs.declared.answer.Condition.{Condition}
use Rattle.sv_vc.specs.ConditionWalk.{Found}
use Rattle.sv_vc.specs.CodeStates.{found_of}
use Rattle.sv_vc.specs.Gatherings.{IsHeld}
use Rattle.sv_vc.proofs.Exactness.{same_label_is}
use Rattle.sv_vc.proofs.LabelKeys.{label_key}
use Rattle.sv_vc.proofs.Gathered.{nothing_held, held_more, found_at, take_found, take_whole}
use Rattle.sv_vc.proofs.gathering.gathered.Goals as goal

pub loop-one-init : goal.loop-one-init
loop-one-init c = record {
  kept = keeps_same c.args.bank.now;
  held = nothing_held c.args.bank.now (get label_ord.cmp c.new-all.result) c.args.nothing (λ l. ap (lookup (is_at (label_ord.cmp l))) c.new-all.ensures.empty) c.requires.nothing_is;
  size = omega arith;
}

pub added-requires : goal.added-requires
added-requires c =
    let ok : IsBool c.args.bank.now c.one-item.result.formula = subst (λ z. IsBool c.args.bank.now z.formula) (sym c.one-item.is) (found_at c.args.bank.now c.args.found.now c.loop-one.one-index c.one-item.result c.requires.truths c.requires.within c.loop-one-test.true) in (
      subst (IsBool c.loop-one.bank) (sym c.held_for-before.ensures) (c.loop-one.invariant.held.at c.one-item.result.label).truth,
      bool_kept c.args.bank.now c.loop-one.bank c.loop-one.invariant.kept c.one-item.result.formula ok,
    )

pub loop-one-preserved : goal.loop-one-preserved
loop-one-preserved c =
    let ok : IsBool c.args.bank.now c.one-item.result.formula = subst (λ z. IsBool c.args.bank.now z.formula) (sym c.one-item.is) (found_at c.args.bank.now c.args.found.now c.loop-one.one-index c.one-item.result c.requires.truths c.requires.within c.loop-one-test.true) in
    let f : Found = record { label = c.one-item.result.label; formula = term c.args.bank.now c.one-item.result.formula } in
    let taken : found_of c.args.bank.now (take (c.loop-one.one-index + 1) c.args.found.now) ≡ found_of c.args.bank.now (take c.loop-one.one-index c.args.found.now) ++ f ∷ [] =
    take_found c.args.bank.now c.args.found.now c.loop-one.one-index c.one-item.result c.loop-one-test.true
    ∙ ap (λ (z : Condition). found_of c.args.bank.now (take c.loop-one.one-index c.args.found.now) ++ record { label = z.label; formula = term c.args.bank.now z.formula } ∷ []) (sym c.one-item.is) in
    record {
      kept = keeps_on c.loop-one.invariant.kept c.in_ok-both.ensures.kept;
      held = subst (IsHeld c.added.new.bank (get label_ord.cmp c.insert.new.self) c.args.nothing) (sym taken)
          (held_more c.loop-one.bank c.added.new.bank (get label_ord.cmp c.loop-one.all) (get label_ord.cmp c.insert.new.self) c.args.nothing c.in_ok-both.both (found_of c.args.bank.now (take c.loop-one.one-index c.args.found.now)) f c.in_ok-both.ensures.kept c.loop-one.invariant.held
          record {
            within = c.in_ok-both.ensures.stands.within;
            is = c.in_ok-both.ensures.stands.is ∙ ap₂ And (ap (term c.loop-one.bank) c.held_for-before.ensures) (c.loop-one.invariant.kept.terms c.one-item.result.formula ok.within);
          }
          (λ q. c.in_ok-insert.ensures.updates.0 q ∙ ap (λ z. cond z (Some c.in_ok-both.both) (get label_ord.cmp c.loop-one.all q)) (label_key c.one-item.result.label q)) same_label_is);
      size = omega (arith, c.loop-one.invariant.size, c.in_ok-both.ensures.size);
    }

pub returns-clause-holds : goal.returns-clause-holds
returns-clause-holds c = record {
  holds = subst (λ z. IsHeld c.loop-one.bank (get label_ord.cmp c.loop-one.all) c.args.nothing (found_of c.args.bank.now z)) (take_whole c.args.found.now c.loop-one.one-index c.loop-one-test.false) c.loop-one.invariant.held;
  size = omega (arith, c.loop-one.invariant.size, c.loop-one.auto.one-index-end);
}
