use Rattle.std.proofs.Common.{refl}
use Rattle.sv_sem_cases.proofs.examples.calls.Goals as goal

pub returns : goal.returns
returns c = record { gas_ends = refl; failed_reply = refl; misfit_reply = refl; missing_reply = refl; gift_inside = refl; not_payable = refl; no_visit = refl; failed_send = refl; send_that_succeeds = refl; send_of_too_much = refl; lock_holds = refl; forced_ether = refl; ether_before = refl }
