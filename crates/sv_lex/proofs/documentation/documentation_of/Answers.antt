use Rattle.std.proofs.Common.{true, false, sym, subst}
use Rattle.sv_lex.specs.Annotations.{IsNote}
use Rattle.sv_lex.specs.Pieces.{Fits}
use Rattle.sv_lex.specs.TextReading.{piece_of}
use Rattle.sv_lex.proofs.NoteLemmas.{line_is_note, block_is_note}
use Rattle.sv_lex.proofs.documentation.documentation_of.Goals as goal

pub returns-in-Some : goal.returns-in-Some
returns-in-Some c =
    let text = c.in-Some.ensures.cases in
    let fits = subst (λ s. Fits (piece_of s) c.requires.0) c.in-LineComment.is c.requires.1 in
    subst (λ s. IsNote (piece_of s) c.in-Some.text.now false) (sym c.in-LineComment.is)
    (line_is_note c.in-LineComment.body.now c.in-Some.text.now fits.0 text.0 text.1 (sym c.if-not-starts_with.ensures.value))

pub returns-in_ok-text-in-BlockComment : goal.returns-in_ok-text-in-BlockComment
returns-in_ok-text-in-BlockComment c =
    let text = c.in_ok-text-in-BlockComment.ensures.cases in
    subst (λ s. IsNote (piece_of s) c.in_ok-text-in-BlockComment.text.now true) (sym c.in-BlockComment.is)
    (block_is_note c.in-BlockComment.body.now c.in_ok-text-in-BlockComment.text.now text.0 text.1)
