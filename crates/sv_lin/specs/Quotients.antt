-- Serves the proof: rows that have no quotient by the greatest divisor of their numbers, and rows that are added with theirs.
use Rattle.std.specs.Prelude.{ℕ, ◌⊎◌, List, ◌≡◌, pos, ◌≤ℤ◌, Some, slice_get}
use Rattle.std.specs.List.{Contains}
use Rattle.sv_num.specs.Range.{IsI128}
use Rattle.sv_log.specs.LogEntries.{Monomial, Row}
use Rattle.sv_row.specs.RowParts.{IsGreatestDivisor}
use Rattle.sv_lin.specs.Eliminations.{HasQuotient}

-- the greatest divisor of the numbers is 0, 1, or no `i128`
abbrev pub IsIndivisible : List Monomial → Type 0
IsIndivisible ps = (d : ℕ) → IsGreatestDivisor ps d → IsI128 (pos d) → pos 2 ≤ℤ pos d → ⊥

abbrev pub HasNoQuotient : List Row → ℕ → Type 0
HasNoQuotient rows p = (r : Row) → slice_get rows p ≡ Some r → IsIndivisible r.parts

-- rows were added alone, and each that was added has its quotient
pub record AddsDivided (before after : List Row) : Type 0 where
  pub keeps : (r : Row) → Contains before r → Contains after r
  pub divided : (r : Row) → Contains after r → Contains before r ⊎ HasQuotient after r

-- row p has its quotient now
abbrev pub IsRowDivided : ℕ → List Row → List Row → Type 0
IsRowDivided p before after = (r : Row) → slice_get before p ≡ Some r → HasQuotient after r
