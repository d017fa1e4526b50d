use Rattle.std.proofs.Common.{refl}
use Rattle.sv_sem_cases.proofs.examples.bank.Goals as goal

pub returns : goal.returns
returns c = record { attacked = refl; resists = refl }
