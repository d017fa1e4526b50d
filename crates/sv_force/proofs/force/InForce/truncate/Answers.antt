use Rattle.std.proofs.Common.{◌≡◌, ◌<◌, Some, slice_get, length, arith, ap, ap₂, refl}
use Rattle.std.proofs.lemmas.Option.{slice_get_read}
use Rattle.sv_table.specs.Places.{Places}
use Rattle.sv_force.specs.InForce.{force}
use Rattle.sv_force.proofs.Storing.{stored_cut, items_cut, cut_within}
use Rattle.sv_force.proofs.force.InForce.truncate.Goals as goal

pub invariant_of-self : goal.invariant_of-self
invariant_of-self c =
    let within : c.args.count < length c.self.inside.slots.items = omega (arith, c.self.inside.slots.ok.0, c.len.ensures) in
    let there : slice_get c.self.inside.slots.items c.args.count ≡ Some c.index.result.now = slice_get_read _ (length c.self.inside.slots.items) _ _ refl within c.index.ensures in
    let codes = ap (λ (p : Places). p.codes) c.truncate-then-count-len-2.ensures in
    let room = ap (λ (p : Places). p.room) c.truncate-then-count-len-2.ensures in
    let fewer = cut_within _ _ _ c.truncate.ensures.items in (
      stored_cut _ _ _ _ _ _ _ _ c.self.invariant.0 there c.truncate.ensures.items c.truncate-then-count-len.ensures.items codes,
      omega (arith, room, c.self.invariant.1, c.truncate-then-count-len.ensures.capacity),
      omega (arith, fewer, c.self.invariant.2),
      omega (arith, c.self.invariant.3, c.truncate.ensures.capacity),
    )

pub returns-then-count-len : goal.returns-then-count-len
returns-then-count-len c =
    let within : c.args.count < length c.self.inside.slots.items = omega (arith, c.self.inside.slots.ok.0, c.len.ensures) in
    let there : slice_get c.self.inside.slots.items c.args.count ≡ Some c.index.result.now = slice_get_read _ (length c.self.inside.slots.items) _ _ refl within c.index.ensures in
    let codes = ap (λ (p : Places). p.codes) c.truncate-then-count-len-2.ensures in
    let room = ap (λ (p : Places). p.room) c.truncate-then-count-len-2.ensures in
    rw (← c.self.view_is)
    (ap₂ (λ x y. force x y c.self.inside.parts_room)
    (items_cut _ _ _ _ _ _ _ _ c.self.invariant.0 there c.truncate.ensures.items c.truncate-then-count-len.ensures.items codes) room)
