use Rattle.std.proofs.Common.{◌≡◌, ◌-◌, suc, drop, length, refl, subst, arith}
use Rattle.std.proofs.lemmas.Grind.{common_steps}
use Rattle.sv_term.specs.Banks.{TupRow}
use Rattle.sv_bank_sorts.specs.SortNumbering.{IsAdded}
use Rattle.sv_bank_sorts.proofs.Numbering.{part_below, tail_first, tail_parts, tail_room, tail_step}
use Rattle.sv_bank_sorts.proofs.fill.add_tuple.Goals as goal

pub loop-left-init : goal.loop-left-init
loop-left-init c = (
  omega arith,
  tail_first _ _ c.args.parts.now c.args.numbers.now (length c.args.parts.now) _ refl (record {
    number_of = c.add-number.ensures.number;
    sorts = c.add-number.ensures.sorts;
    kept = c.add-number.ensures.kept;
    room = c.add-number.ensures.room;
  }),
)

pub offset_bounds-numbers-parts : goal.offset_bounds-numbers-parts
offset_bounds-numbers-parts c =
    let b = part_below c.args.room.now c.args.parts.now c.args.numbers.now (c.loop-left.left - 1) (record { 0 = 0 }) c.requires (omega (arith, c.loop-left.invariant.0, c.loop-left-test.true)) in
    grind (arith, common_steps, b)

pub bounds-numbers-parts : goal.bounds-numbers-parts
bounds-numbers-parts c = part_below c.args.room.now _ _ _ _ c.requires (omega (arith, c.loop-left.invariant.0, c.loop-left-test.true))

pub add-number-requires-in-loop-left-clause-parts : goal.add-number-requires-in-loop-left-clause-parts
add-number-requires-in-loop-left-clause-parts c =
    let at : c.loop-left.left ≡ suc (c.loop-left.left - 1) = omega (arith, c.loop-left-test.true) in
    tail_parts c.args.room.now c.loop-left.room c.args.parts.now c.args.numbers.now (c.loop-left.left - 1) c.loop-left.number (record { 0 = 0 }) c.requires (omega (arith, c.loop-left.invariant.0, c.loop-left-test.true))
    (subst (λ i. IsAdded c.args.room.now (TupRow (drop i c.args.parts.now)) c.args.numbers.now c.loop-left.number c.loop-left.room) at c.loop-left.invariant.1)

pub add-number-requires-in-loop-left-clause-room : goal.add-number-requires-in-loop-left-clause-room
add-number-requires-in-loop-left-clause-room c =
    let at : c.loop-left.left ≡ suc (c.loop-left.left - 1) = omega (arith, c.loop-left-test.true) in
    tail_room c.args.room.now c.loop-left.room c.args.parts.now c.args.numbers.now (c.loop-left.left - 1) c.loop-left.number c.requires (omega (arith, c.loop-left.invariant.0, c.loop-left-test.true))
    (subst (λ i. IsAdded c.args.room.now (TupRow (drop i c.args.parts.now)) c.args.numbers.now c.loop-left.number c.loop-left.room) at c.loop-left.invariant.1)

pub loop-left-preserved : goal.loop-left-preserved
loop-left-preserved c =
    let at : c.loop-left.left ≡ suc (c.loop-left.left - 1) = omega (arith, c.loop-left-test.true) in (
      omega (arith, c.loop-left.invariant.0),
      tail_step c.args.room.now c.loop-left.room _ c.args.parts.now c.args.numbers.now (c.loop-left.left - 1) c.loop-left.number _ (record { 0 = 0 }) c.requires (omega (arith, c.loop-left.invariant.0, c.loop-left-test.true))
          (subst (λ i. IsAdded c.args.room.now (TupRow (drop i c.args.parts.now)) c.args.numbers.now c.loop-left.number c.loop-left.room) at c.loop-left.invariant.1)
          (record {
            number_of = c.add-number-in-loop-left.ensures.number;
            sorts = c.add-number-in-loop-left.ensures.sorts;
            kept = c.add-number-in-loop-left.ensures.kept;
            room = c.add-number-in-loop-left.ensures.room;
          }),
    )
