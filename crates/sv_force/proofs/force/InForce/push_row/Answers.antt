use Rattle.std.proofs.Common.{rules, ◌≡◌, ◌+◌, ◌++◌, ◌∷◌, [], length, arith, ap, ap₂, ◌∙◌}
use Rattle.std.proofs.lemmas.List.{length-append}
use Rattle.std.specs.Prelude.{FitsSigned}
use Rattle.std.proofs.lemmas.Int.{to_z-of_z}
use mir.Syntax.{w128}
use Rattle.sv_log.specs.LogRows.{row}
use Rattle.sv_row.specs.RowParts.{monomials}
use Rattle.sv_table.specs.Places.{Places}
use Rattle.sv_force.specs.InForce.{RowOf, force}
use Rattle.sv_force.specs.Codes.{code_of}
use Rattle.sv_force.specs.declared.force.Kind.TheVariants as k
use Rattle.sv_force.proofs.Storing.{stored_pushed, items_pushed, room_for, grows_by, last_by}
use Rattle.sv_force.proofs.force.InForce.push_row.Goals as goal

pub unwrap-requires : goal.unwrap-requires
unwrap-requires c =
    let room = room_for _ _ _ _ _ _ c.self.view_is c.self.invariant.0 (length c.args.parts.now) c.requires.parts in
    c.extend_from_slice.ensures.succeeds (omega (arith, room, c.self.inside.parts.ok.0, c.self.invariant.3))

pub invariant_of-self : goal.invariant_of-self
invariant_of-self c =
    let own : FitsSigned w128 c.args.constant = search rules in
    let room_left = room_for _ _ _ _ _ _ c.self.view_is c.self.invariant.0 (length c.args.parts.now) c.requires.parts in
    let parts : c.extend_from_slice.new.self.items ≡ c.self.inside.parts.items ++ c.args.parts.now = grind (arith, c.extend_from_slice.ensures.items, c.unwrap.ensures) in
    let slots : c.push.new.self.items ≡ c.self.inside.slots.items ++ record { kind = k.Row c.args.constant; start = c.len-start.result; end = c.len.result } ∷ [] = grind (arith, c.push.ensures.items, c.push.ensures.succeeds) in
    let start : c.len-start.result ≡ length c.self.inside.parts.items = omega (arith, c.self.inside.parts.ok.0, c.len-start.ensures) in
    let end : c.len.result ≡ length c.extend_from_slice.new.self.items = omega (arith, c.extend_from_slice.new.self.ok.0, c.len.ensures) in
    let long : length c.extend_from_slice.new.self.items ≡ length c.self.inside.parts.items + length c.args.parts.now = rw parts (length-append c.self.inside.parts.items c.args.parts.now) in
    let codes = ap (λ (p : Places). p.codes) c.push-2.ensures ∙ ap (λ x. c.self.inside.table.codes ++ x ∷ []) (c.row_code.ensures ∙ ap (λ z. code_of (RowOf (row z (monomials c.args.parts.now)))) (to_z-of_z w128 c.args.constant own)) in
    let room = ap (λ (p : Places). p.room) c.push-2.ensures in (
      stored_pushed _ _ _ _ _ _ _ (RowOf (row c.args.constant (monomials c.args.parts.now))) c.self.invariant.0 (grows_by _ _ _ parts) start (omega (arith, start, end, long)) end
          (ap (λ x. RowOf (row c.args.constant (monomials x))) (last_by _ _ _ parts _ _ start end)) slots codes,
      omega (arith, room, c.self.invariant.1, c.push.ensures.capacity),
      omega (arith, long, room_left),
      omega (arith, c.self.invariant.3, c.extend_from_slice.ensures.capacity),
    )

pub returns : goal.returns
returns c =
    let own : FitsSigned w128 c.args.constant = search rules in
    let parts : c.extend_from_slice.new.self.items ≡ c.self.inside.parts.items ++ c.args.parts.now = grind (arith, c.extend_from_slice.ensures.items, c.unwrap.ensures) in
    let slots : c.push.new.self.items ≡ c.self.inside.slots.items ++ record { kind = k.Row c.args.constant; start = c.len-start.result; end = c.len.result } ∷ [] = grind (arith, c.push.ensures.items, c.push.ensures.succeeds) in
    let start : c.len-start.result ≡ length c.self.inside.parts.items = omega (arith, c.self.inside.parts.ok.0, c.len-start.ensures) in
    let end : c.len.result ≡ length c.extend_from_slice.new.self.items = omega (arith, c.extend_from_slice.new.self.ok.0, c.len.ensures) in
    let long : length c.extend_from_slice.new.self.items ≡ length c.self.inside.parts.items + length c.args.parts.now = rw parts (length-append c.self.inside.parts.items c.args.parts.now) in
    let codes = ap (λ (p : Places). p.codes) c.push-2.ensures ∙ ap (λ x. c.self.inside.table.codes ++ x ∷ []) (c.row_code.ensures ∙ ap (λ z. code_of (RowOf (row z (monomials c.args.parts.now)))) (to_z-of_z w128 c.args.constant own)) in
    let room = ap (λ (p : Places). p.room) c.push-2.ensures in
    rw (← c.self.view_is)
    (ap₂ (λ x y. force x y c.self.inside.parts_room)
    (items_pushed _ _ _ _ _ _ _ (RowOf (row c.args.constant (monomials c.args.parts.now))) c.self.invariant.0 (grows_by _ _ _ parts) start (omega (arith, start, end, long)) end
    (ap (λ x. RowOf (row c.args.constant (monomials x))) (last_by _ _ _ parts _ _ start end)) slots codes) room)
