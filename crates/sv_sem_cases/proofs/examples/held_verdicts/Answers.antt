use Rattle.sv_sem_cases.proofs.CannotFail.{narrow_sum_holds, loop_with_invariant_holds, failed_send_holds}
use Rattle.sv_sem_cases.proofs.examples.held_verdicts.Goals as goal

pub returns : goal.returns
returns c = record { narrow_sum_holds = narrow_sum_holds; loop_with_invariant_holds = loop_with_invariant_holds; failed_send_holds = failed_send_holds }
