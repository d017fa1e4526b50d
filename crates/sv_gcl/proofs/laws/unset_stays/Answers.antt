use Rattle.sv_gcl.proofs.Unset.{unset_stays}
use Rattle.sv_gcl.proofs.laws.unset_stays.Goals as goal

pub returns : goal.returns
returns c = unset_stays
