use Rattle.std.proofs.Common.{◌≡◌, ◌-◌, length, take, min, subst, sym, ◌∙◌, arith, rules, vec_len}
use Rattle.std.proofs.lemmas.Grind.{common_steps}
use Rattle.std.proofs.lemmas.List.{length-take}
use Rattle.sv_io.specs.Moving.{HasGivenRooms}
use Rattle.sv_io.proofs.GivenCalls.{rooms_taken, rooms_failed, rooms_given}
use Rattle.sv_io.proofs.moving.read_up_to.Goals as goal

pub loop-room-preserved : goal.loop-room-preserved
loop-room-preserved g c = record {
  taken = grind (arith, common_steps);
  within = grind (arith, common_steps);
  faults = search rules;
  takes = grind (arith, common_steps);
  rooms =
      subst (HasGivenRooms c.args.most (g.S.Source.calls c.args.source.now) (g.S.Source.calls c.take.new.self))
      (sym (c.in_ok-extend_from_slice-in-Got.ensures.len ∙ grind (arith, common_steps)))
      (rooms_taken c.args.most (vec_len c.loop-room.bytes) _ c.in-Got.amount _ _ _ c.loop-room.invariant.rooms c.in-Got.ensures.told
      (omega (arith, length-take c.min-want.result c.loop-room.room)));
  sure = search rules;
}

pub returns-in-End-clause-rooms : goal.returns-in-End-clause-rooms
returns-in-End-clause-rooms g c =
    let room : length (take c.min-want.result c.loop-room.room) ≡ min 4096 (c.args.most - vec_len c.loop-room.bytes) = omega (arith, length-take c.min-want.result c.loop-room.room) in
    rooms_given _ _ _ _ (rooms_taken c.args.most (vec_len c.loop-room.bytes) _ _ _ _ _ c.loop-room.invariant.rooms c.in-End.ensures.told room)

pub returns-in-Failed-clause-rooms : goal.returns-in-Failed-clause-rooms
returns-in-Failed-clause-rooms g c =
    let room : length (take c.min-want.result c.loop-room.room) ≡ min 4096 (c.args.most - vec_len c.loop-room.bytes) = omega (arith, length-take c.min-want.result c.loop-room.room) in
    rooms_failed c.args.most (vec_len c.loop-room.bytes) _ _ _ _ c.loop-room.invariant.rooms c.in-Failed.ensures.told room

pub returns-in_err-extend_from_slice-in-Got-clause-rooms : goal.returns-in_err-extend_from_slice-in-Got-clause-rooms
returns-in_err-extend_from_slice-in-Got-clause-rooms g c =
    let room : length (take c.min-want.result c.loop-room.room) ≡ min 4096 (c.args.most - vec_len c.loop-room.bytes) = omega (arith, length-take c.min-want.result c.loop-room.room) in
    rooms_given _ _ _ _ (rooms_taken c.args.most (vec_len c.loop-room.bytes) _ c.in-Got.amount _ _ _ c.loop-room.invariant.rooms c.in-Got.ensures.told room)
