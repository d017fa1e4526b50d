use Rattle.sv_term_forms.proofs.Telling.{each_told}
use Rattle.sv_term_forms.proofs.laws.each_is_told.Goals as goal

pub returns : goal.returns
returns c = each_told
