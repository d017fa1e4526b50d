use Rattle.std.proofs.Common.{◌≡◌, ◌++◌, take}
use Rattle.sv_first_form.specs.FormParts.{AreNames}
use Rattle.sv_first_form.proofs.parse.declare.declare_variables.Given as goal

abbrev pub invariant-loop-variable : goal.invariant-loop-variable
invariant-loop-variable l = (l.names ≡ l.fn.names ++ take l.variable-index l.variables) × AreNames l.names
