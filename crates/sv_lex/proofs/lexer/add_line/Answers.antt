use Rattle.std.proofs.Common.{◌+◌, [], ◌∷◌, length, refl, sym, subst}
use Rattle.std.proofs.lemmas.Result.{err_from_is_err_and}
use Rattle.sv_lex.specs.Collecting.{Added, IsSlice}
use Rattle.sv_lex.specs.Tokens.{lexeme, word_at}
use Rattle.sv_lex.specs.declared.tok.Tok.TheVariants.{Note}
use Rattle.sv_lex.proofs.LoopLemmas.{note_added, note_content_slice, line_added, line_stops, no_note_added}
use Rattle.sv_lex.proofs.lexer.add_line.Goals as goal
use Rattle.sv_lex.proofs.lexer.add_line.Goals.{In_ok-push}

-- behind the Note
note_at : (c : In_ok-push)
    → Added c.args.collector.now c.push.new.self (lexeme Note c.in-Some.ensures.some.opening.word (word_at c.args.at c.in-Some.ensures.some.opening) ∷ [])
    (c.args.at + c.in-Some.opening.before + length c.in-Some.opening.word.now + 1)
note_at c =
    note_added c.args.is_starred c.args.at c.args.line.now c.in-Some.opening c.args.collector.now c.push.new.self c.in-Some.ensures.some c.requires.slice c.requires.ready
    c.in_ok-push.ensures.collects c.in_ok-push.ensures.ready

pub returns-in_default : goal.returns-in_default
returns-in_default c = record { adds = no_note_added c.args.is_starred c.args.at c.args.line.now c.args.collector.now c.in_default.ensures.none c.requires.ready }

pub add_content-requires-clause-slice : goal.add_content-requires-clause-slice
add_content-requires-clause-slice c =
    let first = note_at (goal.at.add_content-requires-clause-slice c).In_ok-push in
    subst (λ s. IsSlice s (c.args.at + c.in-Some.opening.before + length c.in-Some.opening.word.now + 1) c.in-Some.opening.content.now) (sym first.ready.source_is)
    (note_content_slice c.args.collector.now.source.now c.args.is_starred c.args.at c.args.line.now c.in-Some.opening c.in-Some.ensures.some c.requires.slice)

pub returns : goal.returns
returns c = record {
  adds =
      let adds = c.in_ok-add_content.ensures.adds in
      line_added c.args.is_starred c.args.at c.args.line.now c.in-Some.opening c.args.collector.now c.push.new.self c.add_content.new.collector c.push-2.new.self
      c.in-Some.ensures.some adds.0 (c.args.at + c.in-Some.opening.before + length c.in-Some.opening.word.now + 1) (c.args.at + length c.args.line.now) refl refl c.requires.slice
      (note_at (goal.at.returns c).In_ok-push) adds.1 adds.2 c.in_ok-push-2.ensures.collects c.in_ok-push-2.ensures.ready;
}

pub returns-in_err-add_content : goal.returns-in_err-add_content
returns-in_err-add_content c =
    let p = err_from_is_err_and c.from_residual-in_err-add_content.result c.from_residual-in_err-add_content.ensures.1 in
    record {
      adds = rw (p.1, p.2) (line_stops c.args.is_starred c.args.at c.args.line.now c.in-Some.opening c.args.collector.now c.add_content.new.collector c.push.new.self
          c.add_content.new.collector c.in_err-add_content.field-0.0 c.in-Some.ensures.some c.in_err-add_content.ensures.adds);
    }
