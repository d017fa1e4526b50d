use Rattle.std.proofs.Common.{◌+◌, ◌≤◌, length}
use Rattle.sv_form.specs.Nodes.{AreSound}
use Rattle.sv_form.specs.TermWeights.{IsSettling}
use Rattle.sv_form.proofs.weights.settle.Given as goal

abbrev pub invariant-loop-left : goal.invariant-loop-left
invariant-loop-left l = record { low : l.left ≤ l.from + 1; wide : length l.nodes ≤ length l.weights; settling : IsSettling l.nodes l.from l.left l.weights l.constant }

abbrev pub decreases-loop-left : goal.decreases-loop-left
decreases-loop-left l = l.left
