-- Serves the proof: rows of which each two of one greatest column and opposite signs were combined.
use Rattle.std.specs.Prelude.{ℕ, List, ℤ, pos, ◌<ℤ◌}
use Rattle.std.specs.List.{Contains}
use Rattle.sv_log.specs.LogEntries.{Row}
use Rattle.sv_log.specs.LogRows.{IsCombined}
use Rattle.sv_point.specs.NearestPoints.{IsRowOf}
use Rattle.sv_lin.specs.Eliminations.{AreNormal, AreSaturated}

-- what the two make by cancelling their greatest column is one of the rows
abbrev pub HaveSum : List Row → Row → Row → Type 0
HaveSum rows r s = (m n : ℤ) × (t : Row) × IsCombined m r n s t × Contains rows t

-- a row with a positive number at its greatest column and one with a negative number there were combined, the positive one first
abbrev pub AreCompleteAt : List Row → ℕ → Type 0
AreCompleteAt rows x = (k l : ℤ) (r s : Row) → Contains rows r → Contains rows s → IsRowOf x k r → IsRowOf x l s → pos 0 <ℤ k → l <ℤ pos 0 → HaveSum rows r s

abbrev pub AreComplete : List Row → Type 0
AreComplete rows = (x : ℕ) → AreCompleteAt rows x

-- then nothing more can be combined, in either order
abbrev pub CompleteAreSaturated : Type 0
CompleteAreSaturated = (rows : List Row) → AreNormal rows → AreComplete rows → AreSaturated rows
