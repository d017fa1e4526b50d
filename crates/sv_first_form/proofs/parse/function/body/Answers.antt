use Rattle.sv_first_form.proofs.Sequences.{both_first}
use Rattle.sv_first_form.proofs.SumParts.{exact_precedes}
use Rattle.sv_first_form.proofs.Whole.{body_first, functions_precede}
use Rattle.sv_first_form.proofs.parse.function.body.Goals as goal

pub returns : goal.returns
returns c = body_first _ (both_first (functions_precede _ _) c.in_ok-functions.ensures (both_first (exact_precedes _ _) c.in_ok-expect.ensures c.in_ok-expect_end.ensures))
