use Rattle.std.proofs.Common.{◌≡◌, ◌++◌, Some, length, List, map}
use Rattle.sv_cert.specs.LogReading.{◌>>=◌, each, term_part}
use Rattle.sv_cert.specs.PlainNodes.{plain_part}
use Rattle.sv_cert.specs.declared.part.Part.{Part}
use Rattle.sv_cert.proofs.read.node.add_terms.Given as goal

abbrev pub invariant-loop-word : goal.invariant-loop-word
invariant-loop-word l = (more : List Part) × (l.parts ≡ l.initial.parts ++ more) × (each term_part l.fn.words ≡ (each term_part l.words >>= (λ rest. Some (map plain_part more ++ rest))))

abbrev pub decreases-loop-word : goal.decreases-loop-word
decreases-loop-word l = length l.words
