use Rattle.sv_branch_kept.proofs.Keeping.{asks_are_met}
use Rattle.sv_branch_kept.proofs.laws.asks_are_met.Goals as goal

pub returns : goal.returns
returns c = asks_are_met
