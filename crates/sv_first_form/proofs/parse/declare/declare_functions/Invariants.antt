use Rattle.std.proofs.Common.{◌≡◌, ◌++◌, take, map}
use Rattle.sv_first_form.specs.FormParts.{AreNames}
use Rattle.sv_first_form.proofs.parse.declare.declare_functions.Given as goal

abbrev pub invariant-loop-function : goal.invariant-loop-function
invariant-loop-function l = (l.names ≡ l.fn.names ++ map (λ f. f.name) (take l.function-index l.functions)) × AreNames l.names
