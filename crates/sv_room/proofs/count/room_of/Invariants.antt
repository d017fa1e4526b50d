use Rattle.std.proofs.Common.{◌≡◌, map, take}
use Rattle.sv_cert.specs.PlainLogs.{plain_entry}
use Rattle.sv_room.specs.Rooms.{capped_room, total}
use Rattle.sv_room.specs.Needs.{need_of}
use Rattle.sv_room.proofs.count.room_of.Given as goal

abbrev pub invariant-loop-entry : goal.invariant-loop-entry
invariant-loop-entry l = l.room ≡ capped_room (total need_of (map plain_entry (take l.entry-index l.entry-items)))
