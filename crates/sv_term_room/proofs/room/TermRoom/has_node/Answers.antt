use Rattle.std.proofs.Common.{Some, ap₂, ◌∙◌, arith}
use Rattle.sv_term_room.specs.TermRows.{term_node}
use Rattle.sv_term_room.proofs.TermRooms.{size_now, lists_now, own_node, shape_here, args_here}
use Rattle.sv_term_room.proofs.room.TermRoom.has_node.Goals as goal

pub index-requires : goal.index-requires
index-requires c = let size = size_now _ _ _ _ _ _ _ _ c.self.view_is c.self.invariant.0 in omega (arith, size, c.requires, c.self.inside.heads.ok.0)

pub list-requires : goal.list-requires
list-requires c = let size = lists_now _ _ _ _ _ _ _ _ c.self.view_is c.self.invariant.0 in omega (arith, size, c.requires)

pub returns-then-is : goal.returns-then-is
returns-then-is c = (
  (λ t.
      own_node _ _ _ _ _ _ _ _ c.self.view_is c.self.invariant.0 c.args.place c.index.result.now c.list.result.now c.requires c.index.ensures c.list.ensures
      ∙ ap₂ (λ x y. Some (term_node x y)) (c.is.ensures.0 c.if-is.true) (c.same_args.ensures.0 t)),
  λ e.
      c.same_args.ensures.1
      (args_here _ _ _ _ _ _ _ _ c.self.view_is c.self.invariant.0 c.args.place c.index.result.now c.list.result.now c.args.shape c.args.args.now c.requires c.index.ensures c.list.ensures e),
)

pub returns-else-is : goal.returns-else-is
returns-else-is c = (
  (λ t. absurd (cc (t, c.if-is.false))),
  λ e. c.is.ensures.1 (shape_here _ _ _ _ _ _ _ _ c.self.view_is c.self.invariant.0 c.args.place c.index.result.now c.args.shape c.args.args.now c.requires c.index.ensures e),
)
