use Rattle.sv_lines.proofs.Merges.{Left, total}
use Rattle.sv_lines.proofs.lines.merge.Given as goal

abbrev pub invariant-heads : goal.invariant-heads
invariant-heads l = Left l.fn.lists l.rest l.out

abbrev pub decreases-heads : goal.decreases-heads
decreases-heads l = total l.rest
