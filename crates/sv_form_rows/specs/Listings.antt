-- Serves the proof: rows as listings of numbers by columns.
use Rattle.std.specs.Prelude.{ℕ, zero, suc, cond, nat_eq, List, [], ◌++◌, ℤ, pos, ◌-ℤ◌}
use Rattle.sv_log.specs.LogEntries.{Monomial}
use Rattle.sv_log.specs.LogRows.{total}
use Rattle.sv_row.specs.SumSteps.{part}
use Rattle.sv_form.specs.TermWeights.{weight_at, wrapped}

-- 1 at the column k, and 0 at all others
abbrev pub only : ℕ → ℕ → ℤ
only k x = cond (nat_eq x k) (pos 1) (pos 0)

-- the number of the column k among the parts of a row
abbrev pub number_in : List Monomial → ℕ → ℤ
number_in ps k = total (only k) ps

-- the parts of the m columns from k on that have these numbers
abbrev pub listing : (ℕ → ℤ) → ℕ → ℕ → List Monomial
listing x k zero = []
listing x k (suc m) = part (x k) k ++ listing x (suc k) m

-- each weight of the first less that of the second, as numbers from -2^127 on below 2^127
abbrev pub gaps : List ℤ → List ℤ → ℕ → ℤ
gaps first second k = wrapped (weight_at first k) -ℤ wrapped (weight_at second k)
