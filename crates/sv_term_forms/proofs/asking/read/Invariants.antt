use Rattle.std.proofs.Common.{ℕ, ◌<◌}
use Rattle.std.specs.Prelude.{slice_index_or}
use Rattle.sv_num.specs.Range.{IsI128}
use Rattle.sv_log.specs.LogEntries.{Monomial}
use Rattle.sv_row.specs.RowParts.{monomials}
use Rattle.sv_term_forms.proofs.asking.read.Given as goal

-- the numbers so far are in range
abbrev pub invariant-loop-k : goal.invariant-loop-k
invariant-loop-k l = (i : ℕ) (d : Monomial) → i < l.k → IsI128 (slice_index_or (monomials l.parts) i d).factor
