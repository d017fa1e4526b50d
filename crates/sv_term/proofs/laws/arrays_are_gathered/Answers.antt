use Rattle.sv_term.proofs.Gathered.{arrays_are_gathered}
use Rattle.sv_term.proofs.laws.arrays_are_gathered.Goals as goal

pub returns : goal.returns
returns c = arrays_are_gathered
