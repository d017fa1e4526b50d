use Rattle.std.proofs.Common.{rules, refl, arith, subst, sym, length, drop, ◌-◌}
use Rattle.std.proofs.lemmas.List.{take_all, length-drop}
use Rattle.sv_io.specs.Moving.{HasGivenPieces}
use Rattle.std.proofs.lemmas.Grind.{common_steps}
use Rattle.sv_io.proofs.GivenCalls.{pieces_put, pieces_failed}
use Rattle.sv_io.proofs.moving.put_all.Goals as goal

pub loop-rest-preserved : goal.loop-rest-preserved
loop-rest-preserved g c = record {
  written = grind (arith, common_steps);
  faults = search rules;
  puts = grind (arith, common_steps);
  pieces =
      subst (HasGivenPieces c.args.text.now (g.K.Sink.calls c.args.sink.now) (g.K.Sink.calls c.put.new.self))
      (sym (take_all (length c.loop-rest.rest.now - c.in-Took.amount) (drop c.in-Took.amount c.loop-rest.rest.now) (omega (arith, length-drop c.in-Took.amount c.loop-rest.rest.now))))
      (pieces_put c.args.text.now c.loop-rest.rest.now c.loop-rest.rest.now c.in-Took.amount _ _ _ c.loop-rest.invariant.pieces c.in-Took.ensures.told refl);
  room = grind (arith, common_steps);
}

pub returns-in-Failed-clause-pieces : goal.returns-in-Failed-clause-pieces
returns-in-Failed-clause-pieces g c =
    pieces_failed c.args.text.now c.loop-rest.rest.now c.loop-rest.rest.now _ _ _ c.loop-rest.invariant.pieces c.in-Failed.ensures.told refl
