use Rattle.sv_term.proofs.Plain.{plain_has_zero}
use Rattle.sv_term.proofs.laws.plain_has_zero.Goals as goal

pub returns : goal.returns
returns c = plain_has_zero
