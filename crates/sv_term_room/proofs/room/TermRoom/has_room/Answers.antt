use Rattle.std.proofs.Common.{arith}
use Rattle.sv_term_room.proofs.TermRooms.{room_of, has_room}
use Rattle.sv_term_room.proofs.room.TermRoom.has_room.Goals as goal

pub returns-then-has_room : goal.returns-then-has_room
returns-then-has_room c =
    let g = c.has_room.ensures.0 c.if-has_room.true in (
      (λ t. has_room _ _ _ _ _ _ _ _ c.self.view_is c.self.invariant.0 c.args.args c.args.sorts (omega (arith, g.0, c.self.invariant.1)) g.1 (c.has_room-then-has_room.ensures.0 t)),
      λ h. c.has_room-then-has_room.ensures.1 (room_of _ _ _ _ _ _ _ _ c.self.view_is c.self.invariant.0 c.args.args c.args.sorts h).2,
    )

pub returns-else-has_room : goal.returns-else-has_room
returns-else-has_room c = (
  (λ t. absurd (cc (t, c.if-has_room.false))),
  λ h.
      let g = room_of _ _ _ _ _ _ _ _ c.self.view_is c.self.invariant.0 c.args.args c.args.sorts h in
      c.has_room.ensures.1 (omega (arith, g.0, c.self.invariant.1), g.1),
)
