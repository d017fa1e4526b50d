use Rattle.sv_cert.specs.PlainLogs.{plain_entry}
use Rattle.sv_room.specs.Needs.{need_of}
use Rattle.sv_room.proofs.Totals.{total_more}
use Rattle.sv_room.proofs.count.room_of.Goals as goal

pub loop-entry-preserved : goal.loop-entry-preserved
loop-entry-preserved c =
    total_more need_of plain_entry c.as_slice-entry-items.result.now c.loop-entry.entry-index c.entry-item.result c.loop-entry.room c.room_for.result c.and-room.result c.loop-entry-test.true
    c.entry-item.is c.loop-entry.invariant c.room_for.ensures c.and-room.ensures
