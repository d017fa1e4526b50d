use Rattle.sv_first_judge.proofs.Soundness.{verified_is_safe}
use Rattle.sv_first_judge.proofs.laws.verified_is_safe.Goals as goal

pub returns : goal.returns
returns c = verified_is_safe
