use Rattle.std.proofs.Common.{◌≡◌, ◌++◌, Some, length}
use Rattle.sv_cert.specs.LogReading.{◌>>=◌, monomials}
use Rattle.sv_cert.specs.LogSteps.{monomials_of}
use Rattle.sv_cert.proofs.read.entry.parts.Given as goal

abbrev pub invariant-loop-words : goal.invariant-loop-words
invariant-loop-words l = monomials l.fn.words ≡ (monomials l.words >>= (λ rest. Some (monomials_of l.parts ++ rest)))

abbrev pub decreases-loop-words : goal.decreases-loop-words
decreases-loop-words l = length l.words
