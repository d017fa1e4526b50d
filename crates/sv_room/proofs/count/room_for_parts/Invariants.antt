use Rattle.std.proofs.Common.{◌≡◌, map, take}
use Rattle.sv_cert.specs.PlainNodes.{plain_part}
use Rattle.sv_room.specs.Rooms.{capped_room, total}
use Rattle.sv_room.specs.Needs.{need_of_part}
use Rattle.sv_room.proofs.count.room_for_parts.Given as goal

abbrev pub invariant-loop-part : goal.invariant-loop-part
invariant-loop-part l = l.room ≡ capped_room (total need_of_part (map plain_part (take l.part-index l.parts)))
