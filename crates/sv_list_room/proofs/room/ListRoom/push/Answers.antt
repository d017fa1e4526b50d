use Rattle.std.proofs.Common.{◌≡◌, ◌+◌, ◌++◌, ◌∷◌, [], length, arith, ap, ◌∙◌}
use Rattle.std.proofs.lemmas.List.{length-append, length_push}
use Rattle.sv_list_room.specs.NumberLists.{number_lists}
use Rattle.sv_list_room.proofs.Storing.{lists_pushed, stacked_pushed, counted, size_is, room_same, numbers_room_same}
use Rattle.sv_list_room.proofs.room.ListRoom.push.Goals as goal

pub unwrap-requires : goal.unwrap-requires
unwrap-requires c =
    let count = counted _ _ _ _ _ c.self.view_is c.self.invariant.0 in
    let same = numbers_room_same _ _ _ _ _ c.self.view_is c.self.invariant.0 in
    c.extend_from_slice.ensures.succeeds (omega (arith, count, same, c.requires.numbers, c.self.inside.numbers.ok.0, c.self.invariant.4))

pub invariant_of-self : goal.invariant_of-self
invariant_of-self c =
    let count = counted _ _ _ _ _ c.self.view_is c.self.invariant.0 in
    let same = numbers_room_same _ _ _ _ _ c.self.view_is c.self.invariant.0 in
    let size = size_is _ _ _ _ _ c.self.view_is c.self.invariant.0 in
    let all = room_same _ _ _ _ _ c.self.view_is c.self.invariant.0 in
    let numbers : c.extend_from_slice.new.self.items ≡ c.self.inside.numbers.items ++ c.args.list.now = grind (arith, c.extend_from_slice.ensures.items, c.unwrap.ensures) in
    let spans : c.push.new.self.items ≡ c.self.inside.spans.items ++ record { start = c.len-start.result; end = c.len.result } ∷ [] = grind (arith, c.push.ensures.items, c.push.ensures.succeeds) in
    let start : c.len-start.result ≡ length c.self.inside.numbers.items = omega (arith, c.self.inside.numbers.ok.0, c.len-start.ensures) in
    let end : c.len.result ≡ length c.extend_from_slice.new.self.items = omega (arith, c.extend_from_slice.new.self.ok.0, c.len.ensures) in
    let long : length c.extend_from_slice.new.self.items ≡ length c.self.inside.numbers.items + length c.args.list.now = rw numbers (length-append c.self.inside.numbers.items c.args.list.now) in
    let more : length c.push.new.self.items ≡ length c.self.inside.spans.items + 1 = ap length spans ∙ omega (arith, length_push c.self.inside.spans.items (record { start = c.len-start.result; end = c.len.result })) in (
      stacked_pushed _ _ _ _ _ _ c.self.invariant.0 numbers start end spans,
      omega (arith, more, size, all, c.requires.lists),
      omega (arith, c.self.invariant.2, c.push.ensures.capacity),
      omega (arith, long, count, same, c.requires.numbers),
      omega (arith, c.self.invariant.4, c.extend_from_slice.ensures.capacity),
    )

pub returns : goal.returns
returns c =
    let numbers : c.extend_from_slice.new.self.items ≡ c.self.inside.numbers.items ++ c.args.list.now = grind (arith, c.extend_from_slice.ensures.items, c.unwrap.ensures) in
    let spans : c.push.new.self.items ≡ c.self.inside.spans.items ++ record { start = c.len-start.result; end = c.len.result } ∷ [] = grind (arith, c.push.ensures.items, c.push.ensures.succeeds) in
    let start : c.len-start.result ≡ length c.self.inside.numbers.items = omega (arith, c.self.inside.numbers.ok.0, c.len-start.ensures) in
    let end : c.len.result ≡ length c.extend_from_slice.new.self.items = omega (arith, c.extend_from_slice.new.self.ok.0, c.len.ensures) in
    rw (← c.self.view_is)
    (ap (λ x. number_lists x c.self.inside.room c.self.inside.numbers_room)
    (lists_pushed _ _ _ _ _ _ c.self.invariant.0 numbers start end spans))
