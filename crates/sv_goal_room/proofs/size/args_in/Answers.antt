use Rattle.std.proofs.Common.{◌∙◌, ◌≡◌, ◌<◌, length, sym, arith}
use Rattle.std.proofs.lemmas.Grind.{common_steps}
use Rattle.std.proofs.lemmas.Option.{slice_get-get_or}
use Rattle.sv_goal_room.proofs.GoalOrder.{is_term_at}
use Rattle.sv_goal_room.proofs.Filling.{args_count_none, args_count_more, args_count_all}
use Rattle.sv_goal_room.proofs.NodesByNumber.{node_args}
use Rattle.sv_goal_room.proofs.size.args_in.Goals as goal

pub loop-id-init : goal.loop-id-init
loop-id-init c = args_count_none c.args.bank.now

pub offset_bounds-ids-id-index : goal.offset_bounds-ids-id-index
offset_bounds-ids-id-index c = grind (arith, common_steps)

pub node_of-requires : goal.node_of-requires
node_of-requires c =
    let l : c.loop-id.id-index < length c.args.ids.now = omega (arith, c.loop-id-test.true, c.loop-id.auto.id-index-end) in
    is_term_at c.args.bank.now _ c.loop-id.id-index _ c.requires (slice_get-get_or c.args.ids.now c.loop-id.id-index (record { 0 = 0 }) l)

pub returns-in_err-sum : goal.returns-in_err-sum
returns-in_err-sum c = grind (arith, common_steps)

pub loop-id-preserved : goal.loop-id-preserved
loop-id-preserved c =
    let l : c.loop-id.id-index < length c.args.ids.now = omega (arith, c.loop-id-test.true, c.loop-id.auto.id-index-end) in
    args_count_more c.args.bank.now _ c.loop-id.id-index _ c.loop-id.sum c.arg_count.result _ (slice_get-get_or c.args.ids.now c.loop-id.id-index (record { 0 = 0 }) l)
    c.loop-id.invariant (c.arg_count.ensures ∙ sym (node_args c.args.bank.now _ _ c.node_of.ensures.placed)) (grind (arith, common_steps))

pub returns : goal.returns
returns c =
    let l : c.loop-id.id-index ≡ length c.args.ids.now = omega (arith, c.loop-id-test.false, c.loop-id.auto.id-index-end) in
    args_count_all c.args.bank.now _ c.loop-id.id-index _ l c.loop-id.invariant
