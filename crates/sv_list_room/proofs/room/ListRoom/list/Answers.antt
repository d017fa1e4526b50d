use Rattle.std.proofs.Common.{ap, ◌∙◌, slice_range}
use Rattle.sv_list_room.proofs.Storing.{range_at, list_at}
use Rattle.sv_list_room.proofs.room.ListRoom.list.Goals as goal

pub between-requires-clause-order : goal.between-requires-clause-order
between-requires-clause-order c = (range_at _ _ _ _ _ c.self.view_is c.self.invariant.0 c.args.number c.index-span.result.now c.requires c.index-span.ensures).0

pub between-requires-clause-within : goal.between-requires-clause-within
between-requires-clause-within c = rw c.deref.ensures.value ((range_at _ _ _ _ _ c.self.view_is c.self.invariant.0 c.args.number c.index-span.result.now c.requires c.index-span.ensures).1)

pub returns : goal.returns
returns c =
    list_at _ _ _ _ _ c.self.view_is c.self.invariant.0 c.args.number c.index-span.result.now c.between.result.now c.requires c.index-span.ensures
    (c.between.ensures ∙ ap (λ x. slice_range x c.index-span.result.now.start c.index-span.result.now.end) c.deref.ensures.value)
