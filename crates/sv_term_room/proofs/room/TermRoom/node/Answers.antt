use Rattle.std.proofs.Common.{arith}
use Rattle.sv_term_room.proofs.TermRooms.{size_now, lists_now, node_at}
use Rattle.sv_term_room.proofs.room.TermRoom.node.Goals as goal

pub index-requires : goal.index-requires
index-requires c = let size = size_now _ _ _ _ _ _ _ _ c.self.view_is c.self.invariant.0 in omega (arith, size, c.requires, c.self.inside.heads.ok.0)

pub list-requires : goal.list-requires
list-requires c = let size = lists_now _ _ _ _ _ _ _ _ c.self.view_is c.self.invariant.0 in omega (arith, size, c.requires)

pub returns : goal.returns
returns c = node_at _ _ _ _ _ _ _ _ c.self.view_is c.self.invariant.0 c.args.number c.index.result.now c.list.result.now c.requires c.index.ensures c.list.ensures
