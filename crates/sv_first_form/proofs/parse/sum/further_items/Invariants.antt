use Rattle.std.proofs.Common.{length}
use Rattle.sv_first_form.specs.FormParts.{further_part, EndsSum}
use Rattle.sv_first_form.specs.FormReading.{IsSofar}
use Rattle.sv_first_form.proofs.parse.sum.further_items.Given as goal

abbrev pub invariant-items : goal.invariant-items
invariant-items l = IsSofar (further_part l.names) EndsSum l.fn.cursor l.items l.cursor

abbrev pub decreases-items : goal.decreases-items
decreases-items l = length l.cursor
