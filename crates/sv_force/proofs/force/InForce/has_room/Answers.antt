use Rattle.std.proofs.Common.{◌≡◌, ◌<◌, length, arith}
use Rattle.sv_force.proofs.Seeking.{leb_decides}
use Rattle.sv_force.proofs.Storing.{room_is}
use Rattle.sv_force.proofs.force.InForce.has_room.Goals as goal

pub returns-then-len-room : goal.returns-then-len-room
returns-then-len-room c =
    let used : c.len-then-len-room.result ≡ length c.self.inside.parts.items = omega (arith, c.self.inside.parts.ok.0, c.len-then-len-room.ensures) in
    let room : length c.self.inside.slots.items < c.self.inside.table.room = omega (arith, c.self.inside.slots.ok.0, c.len.ensures, c.room.ensures) in
    room_is _ _ _ _ _ _ c.self.view_is c.self.invariant.0 c.args.parts c.len-then-len-room.result used c.self.invariant.2 room _ (leb_decides _ _)
