use Rattle.sv_sort_room.proofs.CellTrees.{numbers_differ, sound_by}
use Rattle.sv_sort_room.proofs.room.SortRoom.is_sound.Goals as goal

pub returns : goal.returns
returns c = numbers_differ _ (sound_by _ _ _ c.self.view_is c.self.invariant.0)
