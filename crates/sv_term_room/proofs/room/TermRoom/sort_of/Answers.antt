use Rattle.std.proofs.Common.{arith}
use Rattle.sv_term_room.proofs.TermRooms.{size_now, sort_at}
use Rattle.sv_term_room.proofs.room.TermRoom.sort_of.Goals as goal

pub index-requires : goal.index-requires
index-requires c = let size = size_now _ _ _ _ _ _ _ _ c.self.view_is c.self.invariant.0 in omega (arith, size, c.requires, c.self.inside.heads.ok.0)

pub returns : goal.returns
returns c = sort_at _ _ _ _ _ _ _ _ c.self.view_is c.self.invariant.0 c.args.number c.index.result.now c.requires c.index.ensures
