use Rattle.sv_first_judge.proofs.Soundness.{forms_are_left}
use Rattle.sv_first_judge.proofs.laws.forms_are_left.Goals as goal

pub returns : goal.returns
returns c = forms_are_left
