use Rattle.std.proofs.Common.{length}
use Rattle.sv_lex.specs.Collecting.{AddsTextSoFar}
use Rattle.sv_lex.proofs.lexer.add_text.Given as goal

abbrev pub invariant-loop-rest : goal.invariant-loop-rest
invariant-loop-rest l = AddsTextSoFar l.text l.rest l.fn.collector l.collector

abbrev pub decreases-loop-rest : goal.decreases-loop-rest
decreases-loop-rest l = length l.rest
