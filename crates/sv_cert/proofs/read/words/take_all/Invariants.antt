use Rattle.std.proofs.Common.{◌≡◌, ◌++◌, Some, length}
use Rattle.sv_cert.specs.LogReading.{◌>>=◌, each}
use Rattle.sv_cert.proofs.read.words.take_all.Given as goal

abbrev pub invariant-loop-values : goal.invariant-loop-values
invariant-loop-values g l = each g.T.FromWord.reads l.fn.words ≡ (each g.T.FromWord.reads l.words >>= (λ rest. Some (l.values ++ rest)))

abbrev pub decreases-loop-values : goal.decreases-loop-values
decreases-loop-values g l = length l.words
