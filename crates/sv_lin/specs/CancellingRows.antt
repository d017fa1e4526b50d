-- Serves the proof: two rows that can be combined, as the code has them.
use Rattle.std.specs.Prelude.{ℕ, List, ℤ, pos, ◌*ℤ◌, ◌<ℤ◌}
use Rattle.sv_log.specs.LogEntries.{Row}
use Rattle.sv_log.specs.LogRows.{row}
use Rattle.sv_point.specs.NearestPoints.{IsRowOf}
use Rattle.sv_row.specs.RowParts.{monomials, AreRising}

-- a row by its constant and its pairs
abbrev pub row_by : ℤ → List (ℤ × ℕ) → Row
row_by k ps = row k (monomials ps)

-- columns rise, the greatest is one, and the numbers there have opposite signs
pub record CanCancel (r s : Row) : Type 0 where
  pub column : ℕ
  pub first : ℤ
  pub second : ℤ
  pub of_first : IsRowOf column first r
  pub of_second : IsRowOf column second s
  pub opposite : (first *ℤ second) <ℤ pos 0
  pub first_rises : AreRising r.parts
  pub second_rises : AreRising s.parts
