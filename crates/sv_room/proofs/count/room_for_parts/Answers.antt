use Rattle.sv_cert.specs.PlainNodes.{plain_part}
use Rattle.sv_room.specs.Needs.{need_of_part}
use Rattle.sv_room.proofs.Totals.{total_more}
use Rattle.sv_room.proofs.count.room_for_parts.Goals as goal

pub loop-part-preserved : goal.loop-part-preserved
loop-part-preserved c =
    total_more need_of_part plain_part c.args.parts.now c.loop-part.part-index c.part-item.result c.loop-part.room c.room_for_part.result c.and-room.result c.loop-part-test.true
    c.part-item.is c.loop-part.invariant c.room_for_part.ensures c.and-room.ensures
