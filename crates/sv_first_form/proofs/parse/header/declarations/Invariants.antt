use Rattle.std.proofs.Common.{length}
use Rattle.sv_first_form.specs.FormParts.{declaration_part, EndsDeclarations}
use Rattle.sv_first_form.specs.FormReading.{IsSofar}
use Rattle.sv_first_form.proofs.parse.header.declarations.Given as goal

abbrev pub invariant-variables : goal.invariant-variables
invariant-variables l = IsSofar declaration_part EndsDeclarations l.fn.cursor l.variables l.cursor

abbrev pub decreases-variables : goal.decreases-variables
decreases-variables l = length l.cursor
