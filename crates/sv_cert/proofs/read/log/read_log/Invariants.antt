use Rattle.std.proofs.Common.{length}
use Rattle.sv_cert.proofs.LogReaders.{ReadSoFar}
use Rattle.sv_cert.proofs.read.log.read_log.Given as goal

abbrev pub invariant-loop-rest : goal.invariant-loop-rest
invariant-loop-rest l = ReadSoFar l.text l.first l.number l.entries l.rest

abbrev pub decreases-loop-rest : goal.decreases-loop-rest
decreases-loop-rest l = length l.rest
