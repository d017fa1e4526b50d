use Rattle.sv_sem_cases.proofs.LongRuns.{pointers_may_be_one, lock_is_forgotten}
use Rattle.sv_sem_cases.proofs.examples.long_verdicts.Goals as goal

pub returns : goal.returns
returns c = record { pointers_may_be_one = pointers_may_be_one; lock_is_forgotten = lock_is_forgotten }
