use Rattle.std.proofs.Common.{◌≡◌, ◌<◌, length, arith}
use Rattle.sv_list_room.proofs.Storing.{room_is}
use Rattle.sv_list_room.proofs.room.ListRoom.has_room.Goals as goal

pub returns-then-len-self : goal.returns-then-len-self
returns-then-len-self c =
    let used : c.len-then-len-self.result ≡ length c.self.inside.numbers.items = omega (arith, c.self.inside.numbers.ok.0, c.len-then-len-self.ensures) in
    let room : length c.self.inside.spans.items < c.self.inside.room = omega (arith, c.self.inside.spans.ok.0, c.len.ensures, c.if-len-self.true) in
    room_is _ _ _ _ _ c.self.view_is c.self.invariant.0 c.args.numbers c.len-then-len-self.result used c.self.invariant.3 room
