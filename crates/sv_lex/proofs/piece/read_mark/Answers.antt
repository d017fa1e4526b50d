-- No comment begins the text, so the longest punctuation does, or nothing.
use Rattle.std.proofs.Common.{◌≢◌, ◌<◌, ◌++◌, List, ℕ, codes, None, arith}
use Rattle.std.proofs.lemmas.Bool.Decides.{Decides-eqb}
use Rattle.std.proofs.lemmas.Slice.Eq.{strip_prefix_is}
use Rattle.sv_lex.specs.declared.fault.Flaw.TheVariants.{Char}
use Rattle.sv_lex.specs.declared.tok.Tok.TheVariants.{Punct}
use Rattle.sv_lex.proofs.MarkLemmas.{strange, longest_mark}
use Rattle.sv_lex.proofs.PieceLemmas.{stuck_here, token_starts}
use Rattle.sv_lex.proofs.piece.read_mark.Goals as goal

pub returns-in-0 : goal.returns-in-0
returns-in-0 c =
    stuck_here c.args.text.now Char c.here.result.flaw c.here.result.behind c.here.ensures.flaw c.here.ensures.here
    (strange c.args.text.now c.mark_len.result c.requires c.in-0.is c.mark_len.ensures)

pub returns-in_default-mark_len : goal.returns-in_default-mark_len
returns-in_default-mark_len c =
    let text = c.args.text.now in
    let n = c.mark_len.result in
    let some : 0 < n = omega arith in
    let no_line : (rest : List ℕ) → text ≢ codes "//" ++ rest = strip_prefix_is Decides-eqb text (codes "//") None c.in_default.ensures.cases in
    let no_block : (rest : List ℕ) → text ≢ codes "/*" ++ rest = strip_prefix_is Decides-eqb text (codes "/*") None c.in_default-strip_prefix.ensures.cases in
    token_starts Punct text c.token.result.rest.now n _ c.token.ensures.shape c.token.ensures.rest (c.mark_len.ensures.form some) (longest_mark text n no_line no_block c.mark_len.ensures)
