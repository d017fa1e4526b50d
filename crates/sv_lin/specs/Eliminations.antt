-- Believed: rows as the items of a log, the entries that elimination adds, and its answers with their causes. Hold it against the README's table of answers.
use Rattle.std.specs.Prelude.{ℕ, ◌+◌, ◌<◌, ◌≤◌, ◌↔◌, false, cond, nat_eq, List, [], ◌∷◌, ◌++◌, map, length, ◌≡◌, ◌⊎◌, ℤ, pos, Some, slice_get}
use Rattle.std.specs.List.{Contains}
use Rattle.sv_term.specs.Terms.{Term}
use Rattle.sv_num.specs.Range.{IsI128}
use Rattle.sv_log.specs.LogEntries.{Monomial, Row, Entry, Combine, Divide, columns, cost_of_log}
use Rattle.sv_log.specs.LogRows.{times, sum_of, FitsRow, Cancels, IsCombined, IsDivided}
use Rattle.sv_log.specs.Logs.{State, Bound, IsAccepted, IsAbsurd}
use Rattle.sv_fraction.specs.Fractions.{Ratio, ratio, IsReduced, FitsSum, IsSum, ExceedsBound}
use Rattle.sv_row.specs.RowParts.{IsNormal, IsGreatestDivisor}
use Rattle.sv_point.specs.NearestPoints.{AreBelow, IsRowOf, IsMet, IsNearestAt, IsWorth}

-- ---- rows in normal form

abbrev pub IsNormalRow : Row → Type 0
IsNormalRow r = IsNormal r.parts

abbrev pub AreNormal : List Row → Type 0
AreNormal rows = (r : Row) → Contains rows r → IsNormalRow r

-- ---- rows with their quotients

-- the row's quotient by the greatest divisor of its numbers, where that is an `i128`, is one of the rows
abbrev pub HasQuotient : List Row → Row → Type 0
HasQuotient rows r = (d : ℕ) (t : Row) → IsGreatestDivisor r.parts d → IsI128 (pos d) → IsDivided (pos d) r t → Contains rows t

abbrev pub AreDivided : List Row → Type 0
AreDivided rows = (r : Row) → Contains rows r → HasQuotient rows r

-- ---- rows as the first items of a log

abbrev pub holding : List Term → List Row → State
holding ts rows = record { terms = ts; items = map Bound rows; splits = []; closed = false }

-- each column is the number of a term
abbrev pub HaveColumns : ℕ → List Row → Type 0
HaveColumns n rows = (r : Row) → Contains rows r → AreBelow n r.parts

-- combinations and divisions alone
abbrev pub AreOfRows : List Entry → Type 0
AreOfRows [] = Unit {0}
AreOfRows (Combine m p n q r ∷ es) = AreOfRows es
AreOfRows (Divide d p r ∷ es) = AreOfRows es
AreOfRows (e ∷ es) = ⊥

-- the rows that the entries add, and with the given ones all that are in force
abbrev pub made : List Entry → List Row
made [] = []
made (Combine m p n q r ∷ es) = r ∷ made es
made (Divide d p r ∷ es) = r ∷ made es
made (e ∷ es) = made es

abbrev pub in_force : List Row → List Entry → List Row
in_force rows es = rows ++ made es

-- no row is without columns and with a positive constant
abbrev pub HaveNoAbsurd : List Row → Type 0
HaveNoAbsurd rows = (r : Row) → Contains rows r → IsAbsurd (Bound r) → ⊥

abbrev pub but_last : List Entry → List Entry
but_last [] = []
but_last (e ∷ []) = []
but_last (e ∷ f ∷ es) = e ∷ but_last (f ∷ es)

-- the entries are accepted after the rows, whatever the terms of the columns are, and go on from no absurd row that they made
pub record AreEntriesOn (rows : List Row) (es : List Entry) : Type 0 where
  pub of_rows : AreOfRows es
  pub accepted : (ts : List Term) → HaveColumns (length ts) rows → IsAccepted (holding ts rows) es
  pub no_absurd : HaveNoAbsurd (made (but_last es))

-- ---- a contradiction

-- an absurd row is in force: a given one, or the last one made
pub record IsContradiction (rows : List Row) (es : List Entry) : Type 0 where
  pub entries : AreEntriesOn rows es
  pub row : Row
  pub absurd : IsAbsurd (Bound row)
  pub place : Contains rows row ⊎ ((before : List Row) × (made es ≡ before ++ row ∷ []))

-- ---- the nearest point

-- a fraction for each column of a list; 0 for the others
pub record Placed : Type 0 where
  pub column : ℕ
  pub value : Ratio

abbrev pub value_in : List Placed → ℕ → Ratio
value_in [] x = ratio (pos 0) (pos 1)
value_in (p ∷ ps) x = cond (nat_eq x p.column) p.value (value_in ps x)

abbrev pub IsColumnOf : List Row → ℕ → Type 0
IsColumnOf rows x = (r : Row) × Contains rows r × Contains (columns r.parts) x

abbrev pub AreFrom : ℕ → List Placed → Type 0
AreFrom x [] = Unit {0}
AreFrom x (p ∷ ps) = (x ≤ p.column) × AreFrom (p.column + 1) ps

-- the columns of the list rise, and are those of the rows below the border
pub record ListsColumns (rows : List Row) (Border : ℕ → Type 0) (ps : List Placed) : Type 0 where
  pub rising : AreFrom 0 ps
  pub each : (x : ℕ) → Contains (map (λ p. p.column) ps) x ↔ IsColumnOf rows x × Border x

-- the fraction is in lowest terms, and with those of the smaller columns it is the nearest
abbrev pub IsNearestIn : List Row → (ℕ → Ratio) → ℕ → Type 0
IsNearestIn rows at x = IsReduced (at x) × IsNearestAt rows at x

-- what two of the rows make by cancelling their greatest column is one of them
abbrev pub AreSaturated : List Row → Type 0
AreSaturated rows = (m n : ℤ) (r s t : Row) → Contains rows r → Contains rows s → IsCombined m r n s t → Contains rows t

-- nothing more can be combined, each row was divided, and the list is the nearest point, which meets the given rows
pub record IsPoint (rows : List Row) (es : List Entry) (ps : List Placed) : Type 0 where
  pub entries : AreEntriesOn rows es
  pub saturated : AreSaturated (in_force rows es)
  pub divided : AreDivided (in_force rows es)
  pub lists : ListsColumns rows (λ x. Unit {0}) ps
  pub nearest : (x : ℕ) → IsNearestIn (in_force rows es) (value_in ps) x
  pub meets : (r : Row) → Contains rows r → IsMet (value_in ps) r

-- ---- a limit that is spent

-- the entries cost the limit or more, and less without the last; no given row is absurd
pub record IsSpent (rows : List Row) (limit : ℕ) (es : List Entry) : Type 0 where
  pub entries : AreEntriesOn rows es
  pub reached : limit ≤ cost_of_log es
  pub before : cost_of_log (but_last es) < limit
  pub given : HaveNoAbsurd rows

-- ---- numbers that are too large

-- the rows have the same greatest column and opposite signs there, and a multiplier, a number of a multiple or of their sum is no `i128`
pub record ExceedsCombination (r s : Row) : Type 0 where
  pub column : ℕ
  pub first : ℤ
  pub second : ℤ
  pub of_first : IsRowOf column first r
  pub of_second : IsRowOf column second s
  pub m : ℤ
  pub n : ℤ
  pub cancels : Cancels m n first second
  pub exceeds : (IsI128 m × IsI128 n × FitsRow (times m r) × FitsRow (times n s) × FitsRow (sum_of (times m r) (times n s))) → ⊥

-- a step of working out makes a number that is no `i128`
abbrev pub ExceedsWorth : (ℕ → Ratio) → Ratio → List Monomial → Type 0
ExceedsWorth at f [] = ⊥
ExceedsWorth at f (p ∷ ps) =
    (FitsSum f p.factor (at p.column) → ⊥) ⊎ ((h : Ratio) × IsSum f p.factor (at p.column) h × ExceedsWorth at h ps)

-- working out the row without its greatest column, or its bound there, makes a number that is no `i128`
pub record ExceedsRow (at : ℕ → Ratio) (r : Row) : Type 0 where
  pub column : ℕ
  pub factor : ℤ
  pub row_of : IsRowOf column factor r
  pub exceeds : ExceedsWorth at (ratio r.constant (pos 1)) row_of.lows
      ⊎ ((f : Ratio) × IsWorth at (ratio r.constant (pos 1)) row_of.lows f × ExceedsBound f factor)

-- the items i and j are rows whose combination exceeds
pub record AreExceedingRows (rows : List Row) (i j : ℕ) : Type 0 where
  pub first : Row
  pub second : Row
  pub is_first : slice_get rows i ≡ Some first
  pub is_second : slice_get rows j ≡ Some second
  pub exceeds : ExceedsCombination first second

-- the list is the nearest point below the greatest column of the item i, a row that exceeds there
pub record IsExceedingValue (rows : List Row) (es : List Entry) (i : ℕ) (ps : List Placed) : Type 0 where
  pub row : Row
  pub is : slice_get (in_force rows es) i ≡ Some row
  pub exceeds : ExceedsRow (value_in ps) row
  pub lists : ListsColumns rows (λ x. x < exceeds.column) ps
  pub nearest : (x : ℕ) → x < exceeds.column → IsNearestIn (in_force rows es) (value_in ps) x

-- neither a given row nor a made one is absurd, and each was divided
pub record IsExcess (rows : List Row) (es : List Entry) : Type 0 where
  pub entries : AreEntriesOn rows es
  pub divided : AreDivided (in_force rows es)
  pub none : HaveNoAbsurd (in_force rows es)
