use Rattle.std.proofs.Common.{◌≡◌, ◌+◌, ◌<◌, ◌++◌, ◌∷◌, [], length, arith, ap, ◌∙◌}
use Rattle.std.proofs.lemmas.List.{length_push}
use Rattle.sv_table.specs.Places.{Places}
use Rattle.sv_sort_room.proofs.CellTrees.{pushed_by, coded_push}
use Rattle.sv_sort_room.proofs.room.SortRoom.push.Goals as goal

pub invariant_of-self : goal.invariant_of-self
invariant_of-self c =
    let cells : c.push.new.self.items ≡ c.self.inside.cells.items ++ c.args.cell ∷ [] = grind (arith, c.push.ensures.items, c.push.ensures.succeeds) in
    let codes = ap (λ (p : Places). p.codes) c.push-2.ensures ∙ ap (λ x. c.self.inside.table.codes ++ x ∷ []) c.cell_code.ensures in
    let room = ap (λ (p : Places). p.room) c.push-2.ensures in (
      pushed_by _ _ _ c.self.view_is c.self.invariant.0 c.args.cell c.requires _ cells,
      coded_push _ _ _ _ _ c.self.invariant.1 cells codes,
      omega (arith, room, c.self.invariant.2, c.push.ensures.capacity),
    )
