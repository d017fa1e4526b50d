use Rattle.std.proofs.Common.{◌+◌, ◌-◌, ◌≤◌, vec_len}
use Rattle.sv_io.specs.Moving.{HasTaken, HasGivenRooms}
use Rattle.sv_io.proofs.moving.read_up_to.Given as goal

abbrev pub invariant-loop-room : goal.invariant-loop-room
invariant-loop-room g l = record {
  taken : HasTaken (g.S.Source.left l.initial.source) (g.S.Source.left l.source) l.bytes.items;
  within : vec_len l.bytes ≤ l.most;
  faults : g.S.Source.faults l.initial.source ≤ g.S.Source.faults l.source;
  takes : g.S.Source.takes l.source ≤ g.S.Source.takes l.initial.source + vec_len l.bytes;
  rooms : HasGivenRooms l.most (g.S.Source.calls l.initial.source) (g.S.Source.calls l.source) (vec_len l.bytes);
  sure : g.S.Source.is_sure l.initial.source → g.S.Source.is_sure l.source;
}

abbrev pub decreases-loop-room : goal.decreases-loop-room
decreases-loop-room g l = l.most - vec_len l.bytes
