use Rattle.std.proofs.Common.{◌≡◌, ◌<◌, length, arith}
use Rattle.std.proofs.lemmas.Grind.{common_steps}
use Rattle.std.proofs.lemmas.Option.{slice_get-get_or}
use Rattle.sv_goal_room.proofs.GoalOrder.{is_term_at}
use Rattle.sv_goal_room.proofs.SortsAdded.{have_none, have_more, have_all}
use Rattle.sv_goal_room.proofs.size.sorts_in.Goals as goal
use Rattle.sv_goal_room.proofs.size.sorts_in.Goals.{then-sort-count+in_ok-count, else-sort-count}

pub loop-id-init : goal.loop-id-init
loop-id-init c = (omega arith, have_none c.args.bank.now)

pub offset_bounds-ids-id-index : goal.offset_bounds-ids-id-index
offset_bounds-ids-id-index c = grind (arith, common_steps)

pub sort_of-sort-requires : goal.sort_of-sort-requires
sort_of-sort-requires c =
    let l : c.loop-id.id-index < length c.args.ids.now = omega (arith, c.loop-id-test.true, c.loop-id.auto.id-index-end) in
    is_term_at c.args.bank.now _ c.loop-id.id-index _ c.requires (slice_get-get_or c.args.ids.now c.loop-id.id-index (record { 0 = 0 }) l)

pub returns-in_err-count : goal.returns-in_err-count
returns-in_err-count c = grind (arith, common_steps)

pub loop-id-preserved : goal.loop-id-preserved
loop-id-preserved c =
    let at = slice_get-get_or c.args.ids.now c.loop-id.id-index (record { 0 = 0 }) c.loop-id-test.true in
    let here = c.sort_of-sort.ensures.kind.within in
    let before = c.loop-id.invariant.0 in
    elim c.if-sort-count.branch [
      | then-sort-count+in_ok-count w ↦ let e = w.count-is in let f = w.in_ok-count.ensures.1 in let g = w.if-sort-count.true in (
        omega (arith, e, f, here),
        have_more c.args.bank.now c.args.ids.now c.loop-id.id-index _ c.sort_of-sort.result c.loop-id.count c.if-sort-count.count at c.sort_of-sort.ensures.only (omega (arith, e, f, g)) (omega (arith, e, f)) c.loop-id.invariant.1,
      )
      | else-sort-count w ↦ let e = w.count-is in let g = w.if-sort-count.false in (
        omega (arith, e, before),
        have_more c.args.bank.now c.args.ids.now c.loop-id.id-index _ c.sort_of-sort.result c.loop-id.count c.if-sort-count.count at c.sort_of-sort.ensures.only (omega (arith, e)) (omega (arith, e, g)) c.loop-id.invariant.1,
      )
    ]

pub returns : goal.returns
returns c =
    let l : c.loop-id.id-index ≡ length c.args.ids.now = omega (arith, c.loop-id-test.false, c.loop-id.auto.id-index-end) in
    (c.loop-id.invariant.0, have_all c.args.bank.now c.args.ids.now c.loop-id.id-index c.loop-id.count l c.loop-id.invariant.1)
