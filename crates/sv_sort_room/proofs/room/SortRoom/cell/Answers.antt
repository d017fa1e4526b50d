use Rattle.sv_sort_room.proofs.CellTrees.{cell_at, sound_by, at_read}
use Rattle.sv_sort_room.proofs.room.SortRoom.cell.Goals as goal

pub returns : goal.returns
returns c = cell_at _ (sound_by _ _ _ c.self.view_is c.self.invariant.0) _ _ (at_read _ _ _ c.self.view_is _ _ c.requires c.index.ensures)
