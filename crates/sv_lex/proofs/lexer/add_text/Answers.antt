use Rattle.std.proofs.Common.{◌-◌, length, refl, sym, ◌∙◌, subst, arith}
use Rattle.std.proofs.lemmas.List.{nil_from_length}
use Rattle.std.proofs.lemmas.Bool.{eqb-true}
use Rattle.std.proofs.lemmas.Result.{err_from_is_err_and}
use Rattle.sv_lex.specs.Collecting.{IsReady, IsSlice}
use Rattle.sv_lex.specs.Pieces.{written, all_written}
use Rattle.sv_lex.specs.TextReading.{piece_of}
use Rattle.sv_lex.proofs.CollectLemmas.{ready_from}
use Rattle.sv_lex.proofs.LoopLemmas.{text_start, text_here, text_slice, text_more, text_stuck, text_stops, text_end, place_of_rest, starts_shorter}
use Rattle.sv_lex.proofs.StuckLaws.{stuck_within}
use Rattle.sv_lex.proofs.lexer.add_text.Goals as goal

pub loop-rest-init : goal.loop-rest-init
loop-rest-init c =
    text_start c.args.text.now c.args.collector.now (subst (λ s. IsReady s c.args.collector.now 0) (sym c.requires.ready.source_is) c.requires.ready)

pub loop-rest-preserved : goal.loop-rest-preserved
loop-rest-preserved c =
    let adds = c.in_ok-add_piece.ensures.adds in
    text_more c.args.text.now c.loop-rest.rest.now c.in-Ok.cut.rest.now c.args.collector.now c.loop-rest.collector c.add_piece.new.collector (piece_of c.in-Ok.cut.shape)
    (length c.args.text.now - length c.loop-rest.rest.now) adds.0 c.loop-rest.invariant c.in-Ok.ensures refl adds.1 adds.2

pub loop-rest-smaller : goal.loop-rest-smaller
loop-rest-smaller c = starts_shorter c.loop-rest.rest.now c.in-Ok.cut.rest.now (piece_of c.in-Ok.cut.shape) c.in-Ok.ensures

pub overflow_add-result : goal.overflow_add-result
overflow_add-result c =
    let s = c.loop-rest.invariant in
    omega (
      arith,
      stuck_within c.loop-rest.rest.now c.in-Err.stuck.flaw c.in-Err.stuck.behind c.in-Err.ensures,
      place_of_rest c.args.text.now c.loop-rest.rest.now s.pieces s.split,
      c.requires.ready.short,
    )

pub add_piece-requires : goal.add_piece-requires
add_piece-requires c =
    let s = c.loop-rest.invariant in
    let text = c.args.text.now in
    let rest = c.loop-rest.rest.now in
    let here = length text - length rest in record {
      ready = ready_from c.args.collector.now c.loop-rest.collector s.tokens (length (all_written s.pieces)) here s.added
          (text_here text rest c.args.collector.now c.loop-rest.collector s);
      stands = record {
        slice = subst (λ source. IsSlice source here (written (piece_of c.in-Ok.cut.shape))) (sym (s.added.ready.source_is ∙ c.requires.ready.source_is))
            (text_slice text rest c.in-Ok.cut.rest.now c.args.collector.now c.loop-rest.collector (piece_of c.in-Ok.cut.shape) s c.in-Ok.ensures);
        formed = (c.in-Ok.cut.rest.now, c.in-Ok.ensures.fits);
      };
    }

pub returns-in-Err : goal.returns-in-Err
returns-in-Err c = record {
  adds = text_stuck c.args.text.now c.loop-rest.rest.now c.args.collector.now c.loop-rest.collector c.in-Err.stuck.flaw c.in-Err.stuck.behind c.loop-rest.invariant
      c.in-Err.ensures;
}

pub returns-in_err-add_piece : goal.returns-in_err-add_piece
returns-in_err-add_piece c =
    let p = err_from_is_err_and c.from_residual.result c.from_residual.ensures.1 in record {
      adds = rw (p.1, p.2) (text_stops c.args.text.now c.loop-rest.rest.now c.in-Ok.cut.rest.now c.args.collector.now c.loop-rest.collector c.add_piece.new.collector
          c.add_piece.new.collector (piece_of c.in-Ok.cut.shape) (length c.args.text.now - length c.loop-rest.rest.now) c.in_err-add_piece.field-0.0 c.loop-rest.invariant
          c.in-Ok.ensures refl c.in_err-add_piece.ensures.adds);
    }

pub returns : goal.returns
returns c = record {
  adds = text_end c.args.text.now c.loop-rest.rest.now c.args.collector.now c.loop-rest.collector c.loop-rest.invariant
      (nil_from_length c.loop-rest.rest.now (eqb-true (length c.loop-rest.rest.now) 0 (sym c.loop-rest-test.ensures)));
}
