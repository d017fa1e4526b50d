use Rattle.sv_form_rows.specs.Questions.{JoinsUpTo}
use Rattle.sv_form_rows.proofs.joining.all_join.Given as goal

abbrev pub invariant-loop-k : goal.invariant-loop-k
invariant-loop-k l = JoinsUpTo l.how l.first l.second l.k
