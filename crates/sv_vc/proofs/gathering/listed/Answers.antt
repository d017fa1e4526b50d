use Rattle.std.proofs.Common.{sym, subst}
use Rattle.sv_vc.specs.CodeStates.{found_of}
use Rattle.sv_vc.specs.Gatherings.{AllConjunctions, IsConjunction}
use Rattle.sv_vc.proofs.Gathered.{conjunctions_push, labels_step, labels_end, none_conjoined, none_labelled}
use Rattle.sv_vc.proofs.gathering.listed.Goals as goal

pub loop-label-init : goal.loop-label-init
loop-label-init c = record {
  labels = none_labelled c.new-list.result c.args.labels.now c.new-list.ensures;
  conjunctions = none_conjoined c.gathered.new.bank (found_of c.args.bank.now c.args.found.now) c.new-list.result c.new-list.ensures;
}

pub loop-label-preserved : goal.loop-label-preserved
loop-label-preserved c = record {
  labels = labels_step c.loop-label.list c.push.new.self _ c.args.labels.now c.loop-label.label-index c.label-item.result c.in_ok-push.ensures.ok c.loop-label-test.true c.label-item.is c.loop-label.invariant.labels;
  conjunctions = subst (AllConjunctions c.gathered.new.bank (found_of c.args.bank.now c.args.found.now)) (sym c.in_ok-push.ensures.ok)
      (conjunctions_push c.gathered.new.bank (found_of c.args.bank.now c.args.found.now) c.loop-label.list _ c.loop-label.invariant.conjunctions
      (subst (IsConjunction c.gathered.new.bank (found_of c.args.bank.now c.args.found.now) c.label-item.result) (sym c.held_for-formula.ensures) (c.in_ok-all.ensures.holds.holds.at c.label-item.result)));
}

pub returns : goal.returns
returns c = record {
  kept = c.in_ok-all.ensures.kept;
  labels_are = labels_end c.loop-label.list c.args.labels.now c.loop-label.label-index c.loop-label-test.false c.loop-label.invariant.labels;
  conjunctions = c.loop-label.invariant.conjunctions;
  size = c.in_ok-all.ensures.holds.size;
}
