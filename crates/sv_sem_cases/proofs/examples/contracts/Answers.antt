use Rattle.std.proofs.Common.{refl}
use Rattle.sv_sem_cases.proofs.examples.contracts.Goals as goal

pub returns : goal.returns
returns c = record { diamond = refl; precondition = refl; two_turns = refl; too_little_gas = refl; no_turn = refl; loop_that_breaks = refl; break_without_gas = refl; never_born = refl; born = refl; modifier_twice = refl; tokens_from_nothing = refl; narrow_sum = refl; typed_result = refl; several_results = refl }
