-- The word characters are a word, or the beginning of a pragma.
use Rattle.std.proofs.Common.{◌≡◌, ◌+◌, Bool, true, false, not, ℕ, List, length, sym, ap, ◌∙◌}
use Rattle.std.specs.Str.{bytes_eq}
use Rattle.std.proofs.lemmas.Bool.{eqb-true}
use Rattle.sv_lex.specs.Forms.{pragma}
use Rattle.sv_lex.specs.declared.fault.Flaw.TheVariants.{Unclosed}
use Rattle.sv_lex.specs.declared.tok.Tok.TheVariants.{Pragma}
use Rattle.sv_lex.proofs.PieceLemmas.{stuck_here, token_starts}
use Rattle.sv_lex.proofs.WordLemmas.{word_starts, pragma_runs_out, pragma_fits}
use Rattle.sv_lex.proofs.piece.read_word.Goals as goal

-- what the test of the word says
tested : (word bytes : List ℕ) (r s : Bool) → r ≡ not (bytes_eq word bytes) → bytes ≡ pragma → r ≡ s → not (bytes_eq word pragma) ≡ s
tested word bytes r s ne is answer = sym (ne ∙ ap (λ (bs : List ℕ). not (bytes_eq word bs)) is) ∙ answer

pub returns-then-ne : goal.returns-then-ne
returns-then-ne c =
    let run = c.split_run.ensures in
    let word = c.split_run.result.0.now in
    word_starts c.args.text.now word c.split_run.result.1.now c.requires run.spelled run.run run.stop
    (tested word c.as_slice.result.now c.ne.result true c.ne.ensures c.as_slice.ensures c.if-ne.true)

pub returns-then-is_empty : goal.returns-then-is_empty
returns-then-is_empty c =
    let run = c.split_run.ensures in
    let body = c.split_run-2.ensures in
    let word = c.split_run.result.0.now in
    let after = c.split_run-2.result.1.now in
    stuck_here c.args.text.now Unclosed c.here.result.flaw c.here.result.behind c.here.ensures.flaw c.here.ensures.here
    (pragma_runs_out c.args.text.now word c.split_run.result.1.now c.split_run-2.result.0.now after run.spelled
    (tested word c.as_slice.result.now c.ne.result false c.ne.ensures c.as_slice.ensures c.if-ne.false) run.stop body.spelled body.run
    (eqb-true (length after) 0 (sym c.is_empty.ensures ∙ c.if-is_empty.true)))

pub returns : goal.returns
returns c =
    let run = c.split_run.ensures in
    let body = c.split_run-2.ensures in
    let word = c.split_run.result.0.now in
    let after = c.split_run-2.result.1.now in
    let fits =
    pragma_fits c.args.text.now word c.split_run.result.1.now c.split_run-2.result.0.now after run.spelled
    (tested word c.as_slice.result.now c.ne.result false c.ne.ensures c.as_slice.ensures c.if-ne.false) run.stop body.spelled body.run body.stop
    (sym c.is_empty.ensures ∙ c.if-is_empty.false) in
    token_starts Pragma c.args.text.now c.token.result.rest.now (length word + length c.split_run-2.result.0.now) _ c.token.ensures.shape c.token.ensures.rest fits.0 fits.1
