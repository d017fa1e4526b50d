use Rattle.std.proofs.Common.{◌≡◌, ◌++◌, ◌∷◌, [], arith, ap, ◌∙◌}
use Rattle.sv_list_room.specs.NumberLists.{NumberLists}
use Rattle.sv_table.specs.Places.{Places}
use Rattle.sv_term_room.specs.TermRows.{term_node, term_row, terms_of}
use Rattle.sv_term_room.proofs.TermRooms.{room_of, pushed_stored, pushed_terms, view_pushed}
use Rattle.sv_term_room.proofs.room.TermRoom.push.Goals as goal

pub unwrap-requires : goal.unwrap-requires
unwrap-requires c =
    let g = room_of _ _ _ _ _ _ _ _ c.self.view_is c.self.invariant.0 _ _ c.requires.room in
    c.push.ensures.succeeds (omega (arith, g.0, c.self.invariant.0.sizes, c.self.invariant.2, c.self.inside.heads.ok.0))

pub push-requires-2-clause-lists : goal.push-requires-2-clause-lists
push-requires-2-clause-lists c =
    let g = room_of _ _ _ _ _ _ _ _ c.self.view_is c.self.invariant.0 _ _ c.requires.room in omega (arith, g.0, c.self.invariant.1)

pub push-requires-2-clause-numbers : goal.push-requires-2-clause-numbers
push-requires-2-clause-numbers c = (room_of _ _ _ _ _ _ _ _ c.self.view_is c.self.invariant.0 _ _ c.requires.room).1

pub invariant_of-self : goal.invariant_of-self
invariant_of-self c =
    let heads : c.push.new.self.items ≡ c.self.inside.heads.items ++ record { shape = c.args.shape; sort = c.args.sort } ∷ [] = grind (arith, c.push.ensures.items, c.push.ensures.succeeds) in
    let lists = ap (λ (x : NumberLists). x.lists) c.push-2.ensures in
    let codes = ap (λ (p : Places). p.codes) c.push-3.ensures ∙ ap (λ x. c.self.inside.table.codes ++ x ∷ []) c.node_code.ensures in
    let room = ap (λ (p : Places). p.room) c.push-3.ensures in
    let lists_room = ap (λ (x : NumberLists). x.room) c.push-2.ensures in (
      pushed_stored _ _ _ _ _ _ _ _ c.self.view_is c.self.invariant.0 c.args.shape c.args.args.now c.args.sort c.requires.new _ _ _ heads lists codes,
      omega (arith, room, lists_room, c.self.invariant.1),
      omega (arith, room, c.self.invariant.2, c.push.ensures.capacity),
    )

pub returns-clause-rows : goal.returns-clause-rows
returns-clause-rows c =
    let heads : c.push.new.self.items ≡ c.self.inside.heads.items ++ record { shape = c.args.shape; sort = c.args.sort } ∷ [] = grind (arith, c.push.ensures.items, c.push.ensures.succeeds) in
    view_pushed _ _ c.self.inside.args c.push-2.new.self c.self.inside.table c.push-3.new.self c.args.shape c.args.args.now _ c.args.sort _ c.self.inside.sorts.cells c.self.inside.sorts.room c.self.view_is c.self.invariant.0.sizes heads c.push-2.ensures c.push-3.ensures

pub returns-clause-terms : goal.returns-clause-terms
returns-clause-terms c =
    let heads : c.push.new.self.items ≡ c.self.inside.heads.items ++ record { shape = c.args.shape; sort = c.args.sort } ∷ [] = grind (arith, c.push.ensures.items, c.push.ensures.succeeds) in
    ap terms_of (view_pushed _ _ c.self.inside.args c.push-2.new.self c.self.inside.table c.push-3.new.self c.args.shape c.args.args.now _ c.args.sort _ c.self.inside.sorts.cells c.self.inside.sorts.room c.self.view_is c.self.invariant.0.sizes heads c.push-2.ensures c.push-3.ensures)
    ∙ pushed_terms (term_row (term_node c.args.shape c.args.args.now) c.args.sort) c.args.self.now
