-- The punctuation is the table's.
use Rattle.sv_lex.specs.Forms.{marks}
use Rattle.sv_lex.proofs.mark.mark_len.Goals as goal

pub returns : goal.returns
unfolding marks
returns c = c.front_len.ensures
