use Rattle.sv_log.proofs.Soundness.{sound}
use Rattle.sv_log.proofs.laws.closed_is_valid.Goals as goal

pub returns : goal.returns
returns c = sound
