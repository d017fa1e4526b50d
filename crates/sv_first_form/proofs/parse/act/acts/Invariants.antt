use Rattle.std.proofs.Common.{length}
use Rattle.sv_first_form.specs.FormParts.{act_part, EndsActs}
use Rattle.sv_first_form.specs.FormReading.{IsSofar}
use Rattle.sv_first_form.proofs.parse.act.acts.Given as goal

abbrev pub invariant-acts : goal.invariant-acts
invariant-acts l = IsSofar (act_part l.names) EndsActs l.fn.cursor l.acts l.cursor

abbrev pub decreases-acts : goal.decreases-acts
decreases-acts l = length l.cursor
