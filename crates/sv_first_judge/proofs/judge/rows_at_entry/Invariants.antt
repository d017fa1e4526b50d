use Rattle.std.proofs.Common.{◌≡◌, map, take}
use Rattle.sv_first_judge.specs.Judging.{equation_form}
use Rattle.sv_first_judge.specs.LinearForm.{variable_form}
use Rattle.sv_first_judge.specs.Rows.{form_of}
use Rattle.sv_first_judge.proofs.judge.rows_at_entry.Given as goal

abbrev pub invariant-loop-invariant : goal.invariant-loop-invariant
invariant-loop-invariant l = map form_of l.rows.items ≡ map (equation_form variable_form) (take l.invariant-index l.invariants)
