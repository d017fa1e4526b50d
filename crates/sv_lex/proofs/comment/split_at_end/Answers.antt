-- The first `*/` is where one begins; where none does, the text has none.
use Rattle.std.proofs.Common.{Some, codes, length, take, drop, ◌-◌}
use Rattle.std.proofs.lemmas.Bool.Decides.{Decides-eqb}
use Rattle.std.proofs.lemmas.Slice.Eq.{strip_prefix_is}
use Rattle.sv_lex.proofs.CommentLemmas.{open_before, open_text, parted}
use Rattle.sv_lex.proofs.comment.split_at_end.Goals as goal

pub returns-in-Some-clause-some : goal.returns-in-Some-clause-some
returns-in-Some-clause-some c =
    let text = c.args.text.now in
    let i = c.loop-i.i in (
      parted text c.in-Some.rest.now i (strip_prefix_is Decides-eqb (take (length text - i) (drop i text)) (codes "*/") (Some c.in-Some.rest) c.in-Some.ensures.cases),
      open_before text i c.loop-i.auto.i-end c.loop-i.invariant,
    )

pub returns-clause-none : goal.returns-clause-none
returns-clause-none c = open_text c.args.text.now c.loop-i.i c.loop-i-test.false c.loop-i.invariant
