use Rattle.std.proofs.lemmas.Bool.{iff_false}
use Rattle.sv_first_form.proofs.Whole.{at_end_first, at_end_fails}
use Rattle.sv_first_form.proofs.parse.cursor.Cursor.expect_end.Goals as goal

pub returns-then-is_at_end : goal.returns-then-is_at_end
returns-then-is_at_end c = at_end_first (c.is_at_end.ensures.0 c.if-is_at_end.true)

pub returns-else-is_at_end : goal.returns-else-is_at_end
returns-else-is_at_end c = at_end_fails (iff_false c.is_at_end.ensures c.if-is_at_end.false)
