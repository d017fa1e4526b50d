use Rattle.sv_first_form.proofs.Sequences.{both_first}
use Rattle.sv_first_form.proofs.SumParts.{side_first, variable_precedes}
use Rattle.sv_first_form.proofs.parse.sum.side.Goals as goal

pub returns : goal.returns
returns c = rw c.in_ok-sum.ensures (side_first _ (both_first (variable_precedes _ _) c.in_ok-first.ensures c.in_ok-further.ensures))
