use Rattle.std.proofs.Common.{refl}
use Rattle.sv_sem_cases.proofs.examples.pointers.Goals as goal

pub returns : goal.returns
returns c = record { one_element = refl; two_elements = refl; no_element = refl; popped_pointer = refl; pop_of_nothing = refl; one_object = refl; deleted_field = refl }
