use Rattle.sv_cert.proofs.SortReaders.{SortSoFar}
use Rattle.sv_cert.proofs.read.sort.sort.Given as goal

abbrev pub invariant-loop-byte : goal.invariant-loop-byte
invariant-loop-byte l = SortSoFar l.word l.byte-index l.brackets l.reading
