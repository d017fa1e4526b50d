use Rattle.sv_term.proofs.Maps.{arrays_are_their_reads}
use Rattle.sv_term.proofs.laws.arrays_are_their_reads.Goals as goal

pub returns : goal.returns
returns c = arrays_are_their_reads
