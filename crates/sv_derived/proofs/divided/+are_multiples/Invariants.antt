use Rattle.std.proofs.Common.{length}
use Rattle.sv_derived.proofs.divided.+are_multiples.Given as goal

abbrev pub decreases-are_multiples : goal.decreases-are_multiples
decreases-are_multiples l = length l.parts.now
