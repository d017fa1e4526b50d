use Rattle.sv_term_room.proofs.TermRooms.{kept}
use Rattle.sv_term_room.proofs.room.TermRoom.is_sound.Goals as goal

pub returns : goal.returns
returns c = kept _ _ _ _ _ _ _ _ c.self.view_is c.self.invariant.0 c.is_sound.ensures
