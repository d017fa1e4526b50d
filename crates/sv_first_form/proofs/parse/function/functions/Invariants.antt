use Rattle.std.proofs.Common.{length}
use Rattle.sv_first_form.specs.FormParts.{function_part, EndsFunctions}
use Rattle.sv_first_form.specs.FormReading.{IsSofar}
use Rattle.sv_first_form.proofs.parse.function.functions.Given as goal

abbrev pub invariant-functions : goal.invariant-functions
invariant-functions l = IsSofar (function_part l.names) EndsFunctions l.fn.cursor l.functions l.cursor

abbrev pub decreases-functions : goal.decreases-functions
decreases-functions l = length l.cursor
