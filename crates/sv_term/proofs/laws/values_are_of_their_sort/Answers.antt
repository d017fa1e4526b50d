use Rattle.sv_term.proofs.Typed.{values_are_of_their_sort}
use Rattle.sv_term.proofs.laws.values_are_of_their_sort.Goals as goal

pub returns : goal.returns
returns c = values_are_of_their_sort
