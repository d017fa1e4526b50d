use Rattle.std.proofs.Common.{◌≡◌, ◌+◌, ◌≤◌, ◌<◌, ℕ, length, pos}
use Rattle.sv_form.specs.TermWeights.{weight_at}
use Rattle.sv_form.proofs.weights.clear.Given as goal

abbrev pub invariant-loop-left : goal.invariant-loop-left
invariant-loop-left l = record { low : l.left ≤ l.from + 1; within : l.from < length l.weights; blank : (n : ℕ) → l.left ≤ n → weight_at l.weights n ≡ pos 0 }

abbrev pub decreases-loop-left : goal.decreases-loop-left
decreases-loop-left l = l.left
