use Rattle.std.proofs.Common.{◌≡◌, ◌<◌, ◌*◌, ◌^◌}
use Rattle.sv_literal.proofs.scaled.Given as goal

abbrev pub invariant-loop-left : goal.invariant-loop-left
invariant-loop-left l = (l.scaled * 10 ^ l.left ≡ l.n * 10 ^ l.tens) × (l.scaled < 2 ^ 128)

abbrev pub decreases-loop-left : goal.decreases-loop-left
decreases-loop-left l = l.left
