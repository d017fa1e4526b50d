use Rattle.std.proofs.Common.{length}
use Rattle.sv_lex.specs.Collecting.{AddsSoFar}
use Rattle.sv_lex.proofs.lexer.add_content.Given as goal

abbrev pub invariant-loop-rest : goal.invariant-loop-rest
invariant-loop-rest l = AddsSoFar l.at l.content l.rest l.fn.collector l.collector

abbrev pub decreases-loop-rest : goal.decreases-loop-rest
decreases-loop-rest l = length l.rest
