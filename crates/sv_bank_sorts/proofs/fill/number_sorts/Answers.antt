use Rattle.std.proofs.Common.{◌≡◌, ◌<◌, ◌++◌, ◌∷◌, [], length, sym, subst, arith}
use Rattle.std.proofs.lemmas.Grind.{common_steps}
use Rattle.sv_term.specs.Banks.{row_of}
use Rattle.sv_sort_room.proofs.CellTrees.{extends_self}
use Rattle.sv_bank_sorts.specs.SortNumbering.{IsReady, IsAdded}
use Rattle.sv_bank_sorts.proofs.Numbering.{filled_none, next_ready, next_filled}
use Rattle.sv_bank_sorts.proofs.fill.number_sorts.Goals as goal

pub returns-in_err-numbers-clause-kept : goal.returns-in_err-numbers-clause-kept
returns-in_err-numbers-clause-kept c = extends_self _

pub loop-room-init : goal.loop-room-init
loop-room-init c = (filled_none _ _ _ _ c.in_ok-numbers.ensures.items, omega (arith, c.in_ok-numbers.ensures.capacity))

pub add-number-requires : goal.add-number-requires
add-number-requires c =
    let at : c.len-in-loop-room.result ≡ length c.loop-room.numbers.items = grind (arith, common_steps) in
    let before : c.len-in-loop-room.result < c.args.count = omega (arith, c.loop-room-test.true, c.len.ensures, c.len-in-loop-room.ensures) in
    subst (λ y. IsReady c.loop-room.room (row_of c.sort_node.result.now) y) (sym c.deref.ensures.value)
    (next_ready _ _ _ _ _ (record { 0 = c.len-in-loop-room.result }) _ c.loop-room.invariant.0 at before c.requires.room c.sort_node.ensures.node c.sort_node.ensures.placed)

pub loop-room-preserved : goal.loop-room-preserved
loop-room-preserved c =
    let at : c.len-in-loop-room.result ≡ length c.loop-room.numbers.items = grind (arith, common_steps) in
    let before : c.len-in-loop-room.result < c.args.count = omega (arith, c.loop-room-test.true, c.len.ensures, c.len-in-loop-room.ensures) in
    let items : c.push.new.self.items ≡ c.loop-room.numbers.items ++ c.add-number.result ∷ [] = grind (arith, c.push.ensures.items, c.push.ensures.succeeds) in (
      next_filled _ _ _ _ _ _ _ (record { 0 = c.len-in-loop-room.result }) _ _ c.loop-room.invariant.0 at before c.sort_node.ensures.node c.sort_node.ensures.placed
          (subst (λ y. IsAdded c.loop-room.room (row_of c.sort_node.result.now) y c.add-number.result c.add-number.new.room) c.deref.ensures.value c.add-number.ensures) items,
      omega (arith, c.push.ensures.capacity, c.loop-room.invariant.1),
    )
