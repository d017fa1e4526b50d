-- No `*/` begins before the index.
use Rattle.sv_lex.proofs.CommentLemmas.{NoneBefore}
use Rattle.sv_lex.proofs.comment.split_at_end.Given as goal

abbrev pub invariant-loop-i : goal.invariant-loop-i
invariant-loop-i l = NoneBefore l.text l.i
