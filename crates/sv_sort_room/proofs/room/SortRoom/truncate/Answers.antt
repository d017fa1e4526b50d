use Rattle.std.proofs.Common.{◌≡◌, length, arith, ap, ◌∙◌}
use Rattle.sv_table.specs.Places.{Places}
use Rattle.sv_sort_room.proofs.CellTrees.{cut_by, coded_cut}
use Rattle.sv_sort_room.proofs.room.SortRoom.truncate.Goals as goal

pub invariant_of-self : goal.invariant_of-self
invariant_of-self c =
    let codes = ap (λ (p : Places). p.codes) c.truncate-2.ensures in
    let room = ap (λ (p : Places). p.room) c.truncate-2.ensures in (
      cut_by _ _ c.self.invariant.0 _ c.truncate.ensures.items,
      coded_cut _ _ _ _ _ c.self.invariant.1 c.truncate.ensures.items codes,
      omega (arith, room, c.self.invariant.2, c.truncate.ensures.capacity),
    )
