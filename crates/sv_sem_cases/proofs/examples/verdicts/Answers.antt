use Rattle.sv_sem_cases.proofs.Verdicts.{gift_breaks, construction_breaks, never_born_holds, no_gift_to_the_unborn, precondition_is_no_licence, wide_limit_fails, precondition_fails, bank_fails_at_call, loop_without_invariant, no_invariant_no_failure}
use Rattle.sv_sem_cases.proofs.examples.verdicts.Goals as goal

pub returns : goal.returns
returns c = record { gift_breaks = gift_breaks; construction_breaks = construction_breaks; never_born_holds = never_born_holds; no_gift_to_the_unborn = no_gift_to_the_unborn; precondition_is_no_licence = precondition_is_no_licence; wide_limit_fails = wide_limit_fails; precondition_fails = precondition_fails; bank_fails_at_call = bank_fails_at_call; loop_without_invariant = loop_without_invariant; no_invariant_no_failure = no_invariant_no_failure }
