use Rattle.std.proofs.Common.{ℕ, ◌<◌, get_or}
use lib.IntN.{pos}
use Rattle.sv_allowed.proofs.numbers.are_columns.Given as goal

abbrev pub invariant-loop-column : goal.invariant-loop-column
invariant-loop-column l = (k : ℕ) → k < l.column-index → (get_or l.parts k (pos 0, 0)).1 < l.terms
