use Rattle.std.proofs.Common.{◌+◌, ◌-◌, length, refl, subst, arith}
use Rattle.sv_lex.specs.Pieces.{Starts, token}
use Rattle.sv_lex.specs.TextReading.{piece_of}
use Rattle.sv_lex.proofs.CollectLemmas.{slice_within}
use Rattle.sv_lex.proofs.LoopLemmas.{content_stuck, content_start, content_token, content_other, place_of_rest, starts_shorter}
use Rattle.sv_lex.proofs.StuckLaws.{stuck_within}
use Rattle.sv_lex.proofs.lexer.add_content.Goals as goal

pub loop-rest-init : goal.loop-rest-init
loop-rest-init c = content_start c.args.at c.args.content.now c.args.collector.now c.requires.ready

pub loop-rest-preserved : goal.loop-rest-preserved
loop-rest-preserved c =
    content_other c.args.at c.args.content.now c.loop-rest.rest.now c.in-Ok.cut.rest.now c.args.collector.now c.loop-rest.collector c.in-Ok.cut.shape
    c.loop-rest.invariant c.in-Ok.ensures c.in_default.not-Token

pub loop-rest-preserved-in_ok-push : goal.loop-rest-preserved-in_ok-push
loop-rest-preserved-in_ok-push c =
    let rest = c.loop-rest.rest.now in
    let starts : Starts rest (token c.in-Token.kind c.in-Token.bytes.now) c.in-Ok.cut.rest.now =
    subst (λ s. Starts rest (piece_of s) c.in-Ok.cut.rest.now) c.in-Token.is c.in-Ok.ensures in
    let here = c.args.at + length c.args.content.now - length rest in
    content_token c.args.at c.args.content.now rest c.in-Ok.cut.rest.now c.args.collector.now c.loop-rest.collector c.push.new.self c.in-Token.kind c.in-Token.bytes.now
    here (here + length c.in-Token.bytes.now) c.requires.slice c.loop-rest.invariant starts refl refl c.in_ok-push.ensures.collects c.in_ok-push.ensures.ready

pub loop-rest-smaller : goal.loop-rest-smaller
loop-rest-smaller c = starts_shorter c.loop-rest.rest.now c.in-Ok.cut.rest.now (piece_of c.in-Ok.cut.shape) c.in-Ok.ensures

pub loop-rest-smaller-in_ok-push : goal.loop-rest-smaller-in_ok-push
loop-rest-smaller-in_ok-push c = starts_shorter c.loop-rest.rest.now c.in-Ok.cut.rest.now (piece_of c.in-Ok.cut.shape) c.in-Ok.ensures

pub overflow_add-result : goal.overflow_add-result
overflow_add-result c =
    let s = c.loop-rest.invariant in
    omega (
      arith,
      stuck_within c.loop-rest.rest.now c.in-Err.stuck.flaw c.in-Err.stuck.behind c.in-Err.ensures,
      place_of_rest c.args.content.now c.loop-rest.rest.now s.pieces s.split,
      slice_within c.args.collector.now.source.now c.args.at c.args.content.now c.requires.slice,
      c.requires.ready.short,
    )

pub returns-in-Err : goal.returns-in-Err
returns-in-Err c = record {
  adds = content_stuck c.args.at c.args.content.now c.loop-rest.rest.now c.args.collector.now c.loop-rest.collector c.in-Err.stuck.flaw c.in-Err.stuck.behind c.loop-rest.invariant
      c.in-Err.ensures;
}
