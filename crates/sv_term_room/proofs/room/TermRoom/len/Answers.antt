use Rattle.std.proofs.Common.{arith}
use Rattle.sv_term_room.proofs.TermRooms.{size_now}
use Rattle.sv_term_room.proofs.room.TermRoom.len.Goals as goal

pub returns : goal.returns
returns c = let size = size_now _ _ _ _ _ _ _ _ c.self.view_is c.self.invariant.0 in omega (arith, size, c.len.ensures, c.self.inside.heads.ok.0)
