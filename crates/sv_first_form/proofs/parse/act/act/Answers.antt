use Rattle.std.proofs.lemmas.Bool.{iff_false}
use Rattle.sv_first_form.proofs.ActParts.{requirement_reads, assignment_reads}
use Rattle.sv_first_form.proofs.parse.act.act.Goals as goal

pub returns-then-sees : goal.returns-then-sees
returns-then-sees c = requirement_reads _ c.requirement.result _ c.requires (c.sees.ensures.0 c.if-sees.true) c.requirement.ensures

pub returns-else-sees : goal.returns-else-sees
returns-else-sees c = assignment_reads _ c.assignment.result _ (iff_false c.sees.ensures c.if-sees.false) c.assignment.ensures
