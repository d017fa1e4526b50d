use Rattle.sv_term_forms.proofs.Forming.{forms_normal}
use Rattle.sv_term_forms.proofs.laws.forms_are_normal.Goals as goal

pub returns : goal.returns
returns c = forms_normal
