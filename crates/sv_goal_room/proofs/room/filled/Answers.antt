use Rattle.std.proofs.Common.{◌∙◌, ◌≡◌, length, List, sym, subst, arith}
use Rattle.std.proofs.lemmas.Grind.{common_steps}
use Rattle.sv_term.specs.Banks.{AreTerms}
use Rattle.sv_goal_room.proofs.Filling.{fills_none, fills_next, fills_more, fills_all}
use Rattle.sv_goal_room.proofs.room.filled.Goals as goal

pub sorts_of-requires : goal.sorts_of-requires
sorts_of-requires c = subst (AreTerms c.args.bank.now) (sym c.ids-ids.ensures) c.requires.within

pub returns-in_err-sorts : goal.returns-in_err-sorts
returns-in_err-sorts c = grind (arith, common_steps)

pub begin-requires : goal.begin-requires
begin-requires c = subst (AreTerms c.args.bank.now) (sym c.ids-ids.ensures) c.requires.within

pub returns-in_err-terms : goal.returns-in_err-terms
returns-in_err-terms c = grind (arith, common_steps)

pub loop-id-init : goal.loop-id-init
loop-id-init c = fills_none c.args.bank.now c.args.order.now c.ids-ids.result.now c.ids-ids.ensures c.requires c.in_ok-sorts.sorts.cells c.args.more c.in_ok-terms.terms c.in_ok-terms.ensures

pub offset_bounds-ids-id-index : goal.offset_bounds-ids-id-index
offset_bounds-ids-id-index c = grind (arith, common_steps)

pub put-requires : goal.put-requires
put-requires c = fills_next c.args.bank.now c.args.order.now c.ids-ids.result.now c.ids-ids.ensures c.requires c.in_ok-sorts.sorts.cells c.args.more c.in_ok-terms.terms c.in_ok-terms.ensures
    c.loop-id.id-index c.loop-id.terms c.loop-id.invariant (record { 0 = 0 }) c.loop-id-test.true
    c.in_ok-sorts.numbers.items c.deref.result.now c.deref.ensures.value c.in_ok-sorts.ensures.numbers

pub returns-in_err-put : goal.returns-in_err-put
returns-in_err-put c = grind (arith, common_steps)

pub loop-id-preserved : goal.loop-id-preserved
loop-id-preserved c = fills_more c.args.bank.now c.args.order.now c.ids-ids.result.now c.ids-ids.ensures c.requires c.in_ok-sorts.sorts.cells c.args.more c.in_ok-terms.terms c.in_ok-terms.ensures
    c.loop-id.id-index c.loop-id.terms c.loop-id.invariant (record { 0 = 0 }) c.loop-id-test.true
    c.put.new.room c.in_ok-put.ensures

pub returns : goal.returns
returns c =
    let l : c.loop-id.id-index ≡ length c.ids-ids.result.now = omega (arith, c.loop-id-test.false, c.loop-id.auto.id-index-end) in
    fills_all c.args.bank.now c.args.order.now c.ids-ids.result.now c.ids-ids.ensures c.requires c.in_ok-sorts.sorts.cells c.args.more c.in_ok-terms.terms c.in_ok-terms.ensures
    c.loop-id.id-index c.loop-id.terms c.loop-id.invariant l c.in_ok-sorts.ensures.size
