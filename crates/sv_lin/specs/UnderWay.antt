-- Serves the proof: how far elimination has come, and what a step of it leaves.
use Rattle.std.specs.Prelude.{ℕ, ◌+◌, ◌<◌, ◌≤◌, ◌^◌, ◌↔◌, ◌⊎◌, List, [], ◌∷◌, ◌++◌, map, length, take, ◌≡◌, ℤ, pos, ◌<ℤ◌, ◌≤ℤ◌, unsigned_abs, Option, None, Some, slice_get}
use Rattle.std.specs.List.{Contains}
use Rattle.sv_log.specs.LogEntries.{Monomial, Row, Entry, Combine, Divide, columns, cost_of_log}
use Rattle.sv_log.specs.LogRows.{IsCombined, IsDivided}
use Rattle.sv_log.specs.Logs.{Bound, IsAbsurd}
use Rattle.sv_point.specs.NearestPoints.{AreBelow, IsRowOf}
use Rattle.sv_row.specs.RowParts.{IsGreatestDivisor}
use Rattle.sv_cert.specs.declared.log.Row.{Row as CodeRow}
use Rattle.sv_cert.specs.PlainLogs.{plain_row}
use Rattle.sv_lin.specs.Eliminations.{in_force, HaveNoAbsurd, AreEntriesOn, AreNormal, AreDivided, IsColumnOf, IsContradiction, IsSpent, AreExceedingRows}
use Rattle.sv_lin.specs.Completeness.{HaveSum, AreCompleteAt}
use Rattle.sv_lin.specs.declared.made.Made.{Made}
use Rattle.sv_lin.specs.declared.made.Origin.{Origin}
use Rattle.sv_lin.specs.declared.made.Origin.TheVariants as o
use Rattle.sv_lin.specs.declared.made.Outcome.{Outcome}
use Rattle.sv_lin.specs.declared.made.Outcome.TheVariants as out

-- ---- what the code has, as entries and rows

abbrev pub entry_by : Origin → Row → Entry
entry_by (o.Combined m p n q) r = Combine m p n q r
entry_by (o.Divided d p) r = Divide d p r

abbrev pub entry_made : Made → Entry
entry_made m = entry_by m.origin (plain_row m.row)

abbrev pub entries_of : List Made → List Entry
entries_of ms = map entry_made ms

abbrev pub row_made : Made → Row
row_made m = plain_row m.row

abbrev pub rows_of : List Made → List Row
rows_of ms = map row_made ms

abbrev pub given : List CodeRow → List Row
given rows = map plain_row rows

-- the rows in force
abbrev pub force : List CodeRow → List Made → List Row
force rows ms = in_force (given rows) (entries_of ms)

-- ---- under way

abbrev pub EachColumn : (ℕ → Type 0) → List Monomial → Type 0
EachColumn P [] = Unit {0}
EachColumn P (p ∷ ps) = P p.column × EachColumn P ps

-- the entries are accepted, and nothing ends the elimination yet
pub record IsUnderWay (rows : List Row) (limit : ℕ) (es : List Entry) : Type 0 where
  pub few : length rows < 2 ^ 31
  pub small : limit ≤ 200000
  pub entries : AreEntriesOn rows es
  pub none : HaveNoAbsurd (in_force rows es)
  pub cheap : cost_of_log es < limit
  pub normal : AreNormal (in_force rows es)
  pub within : (r : Row) → Contains (in_force rows es) r → EachColumn (IsColumnOf rows) r.parts

-- how a step ends: it reached its goal, or elimination ends
abbrev pub Ends : List Row → ℕ → List Entry → Type 0 → Outcome → Type 0
Ends rows limit es Goal out.On = IsUnderWay rows limit es × Goal
Ends rows limit es Goal out.Contradiction = IsContradiction rows es
Ends rows limit es Goal out.Spent = IsSpent rows limit es
Ends rows limit es Goal (out.Exceeds i j) = IsUnderWay rows limit es × AreExceedingRows (in_force rows es) i j × AreDivided (in_force rows es)

-- the entry can be added to the rows in force, and what it adds isn't among them
abbrev pub IsStep : List Row → Entry → Type 0
IsStep rows (Combine m p n q t) =
    (Contains rows t → ⊥) × (a b : Row) × (slice_get rows p ≡ Some a) × (slice_get rows q ≡ Some b) × IsCombined m a n b t
IsStep rows (Divide d p t) = (Contains rows t → ⊥) × (a : Row) × (slice_get rows p ≡ Some a) × IsDivided d a t
IsStep rows e = ⊥

-- rows were added, with columns below x alone
pub record GrowsBelow (x : ℕ) (before after : List Row) : Type 0 where
  pub more : List Row
  pub is : after ≡ before ++ more
  pub below : (r : Row) → Contains more r → AreBelow x r.parts

-- ---- the rows of a column

abbrev pub IsUpper : List Row → ℕ → ℕ → Type 0
IsUpper rows x p = (k : ℤ) × (r : Row) × (slice_get rows p ≡ Some r) × IsRowOf x k r × (pos 0 <ℤ k)

abbrev pub IsLower : List Row → ℕ → ℕ → Type 0
IsLower rows x p = (k : ℤ) × (r : Row) × (slice_get rows p ≡ Some r) × IsRowOf x k r × (k <ℤ pos 0)

-- the numbers of the rows of the column x, among the first n
pub record AreSides (rows : List Row) (x : ℕ) (n : ℕ) (uppers lowers : List ℕ) : Type 0 where
  pub uppers_are : (p : ℕ) → Contains uppers p → IsUpper rows x p
  pub lowers_are : (p : ℕ) → Contains lowers p → IsLower rows x p
  pub each_upper : (p : ℕ) → p < n → IsUpper rows x p → Contains uppers p
  pub each_lower : (p : ℕ) → p < n → IsLower rows x p → Contains lowers p

-- the rows of these numbers were combined
abbrev pub WereCombined : List Row → ℕ → ℕ → Type 0
WereCombined rows p q = (r s : Row) → slice_get rows p ≡ Some r → slice_get rows q ≡ Some s → HaveSum rows r s

-- ---- what each step leaves

-- the entry is added to old, and may end the elimination of whatever rows it is a step on
abbrev pub AddsEntry : ℕ → List Entry → List Entry → Entry → Outcome → Type 0
AddsEntry limit old new e o = (rows : List Row) → IsUnderWay rows limit old → IsStep (in_force rows old) e → Ends rows limit new (new ≡ old ++ e ∷ []) o

-- only rows with columns of row p were added
abbrev pub GrowsUnder : ℕ → List Row → List Row → Type 0
GrowsUnder p before after = (x : ℕ) (r : Row) → slice_get before p ≡ Some r → AreBelow x r.parts → GrowsBelow x before after

-- row p can be combined with each of the rows qs at the column x
abbrev pub ArePairs : List Row → ℕ → ℕ → List ℕ → Type 0
ArePairs rows x p qs = IsUpper rows x p × ((q : ℕ) → Contains qs q → IsLower rows x q)

-- it was combined with the first n of them
abbrev pub CombinesFirst : ℕ → ℕ → List ℕ → List Row → List Row → Type 0
CombinesFirst n p qs before after = (x : ℕ) → ArePairs before x p qs
    → GrowsBelow x before after × ((q : ℕ) → Contains (take n qs) q → WereCombined after p q)

abbrev pub CombinesPairs : ℕ → List ℕ → List Row → List Row → Type 0
CombinesPairs p qs before after = CombinesFirst (length qs) p qs before after

-- ---- columns

abbrev pub RiseFrom : ℕ → List ℕ → Type 0
RiseFrom n [] = Unit {0}
RiseFrom n (x ∷ xs) = (n ≤ x) × RiseFrom (x + 1) xs

-- the columns of the rows, rising
pub record AreColumns (rows : List Row) (cs : List ℕ) : Type 0 where
  pub rising : RiseFrom 0 cs
  pub each : (x : ℕ) → Contains cs x ↔ IsColumnOf rows x

-- each row can be read by its number, and is in normal form
abbrev pub AreReadable : List CodeRow → List Made → Type 0
AreReadable rows ms = (length rows + length ms < 2 ^ 64) × AreNormal (force rows ms)

-- the columns of each row, one row after another
abbrev pub columns_among : List Row → List ℕ
columns_among [] = []
columns_among (r ∷ rows) = columns r.parts ++ columns_among rows

-- ---- rows that can be made

-- the quotient of row p by the greatest divisor of its numbers
abbrev pub IsQuotient : List Row → ℕ → Made → Type 0
IsQuotient rows p m = (d : ℤ) × (entry_made m ≡ Divide d p (row_made m)) × (a : Row) × (slice_get rows p ≡ Some a)
    × IsDivided d a (row_made m) × IsGreatestDivisor a.parts (unsigned_abs d)

-- what the rows p and q make
abbrev pub IsSum : List Row → ℕ → ℕ → Made → Type 0
IsSum rows p q m = (k l : ℤ) × (entry_made m ≡ Combine k p l q (row_made m)) × (a b : Row)
    × (slice_get rows p ≡ Some a) × (slice_get rows q ≡ Some b) × IsCombined k a l b (row_made m)

abbrev pub CanBeMade : List Row → Made → Type 0
CanBeMade rows m = ((p : ℕ) × IsQuotient rows p m) ⊎ ((p q : ℕ) × IsSum rows p q m)

-- the row was there, or was added
abbrev pub Enters : List Row → Row → List Row → Type 0
Enters before t after = ((after ≡ before) × Contains before t) ⊎ (after ≡ before ++ t ∷ [])

-- each of the rows ps can be combined with each of the rows qs at the column x
abbrev pub AreAllPairs : List Row → ℕ → List ℕ → List ℕ → Type 0
AreAllPairs rows x ps qs = ((p : ℕ) → Contains ps p → IsUpper rows x p) × ((q : ℕ) → Contains qs q → IsLower rows x q)

-- the first n of them were
abbrev pub CombinesFirstOf : ℕ → List ℕ → List ℕ → List Row → List Row → Type 0
CombinesFirstOf n ps qs before after = (x : ℕ) → AreAllPairs before x ps qs
    → GrowsBelow x before after × ((p q : ℕ) → Contains (take n ps) p → Contains qs q → WereCombined after p q)

abbrev pub CombinesAll : List ℕ → List ℕ → List Row → List Row → Type 0
CombinesAll ps qs before after = CombinesFirstOf (length ps) ps qs before after

-- the columns that are left, and those that are done
pub record AreLeft (rows : List Row) (cs left : List ℕ) : Type 0 where
  pub done : List ℕ
  pub is : cs ≡ left ++ done
  pub complete : (x : ℕ) → Contains done x → AreCompleteAt rows x

-- the number n is put on the side of its factor
abbrev pub AddsSide : ℕ → Option ℤ → List ℕ → List ℕ → List ℕ → List ℕ → Type 0
AddsSide n None us ls us' ls' = (us' ≡ us) × (ls' ≡ ls)
AddsSide n (Some k) us ls us' ls' = ((pos 0 <ℤ k) × (us' ≡ us ++ n ∷ []) × (ls' ≡ ls)) ⊎ ((k ≤ℤ pos 0) × (us' ≡ us) × (ls' ≡ ls ++ n ∷ []))

-- some row is without columns and with a positive constant
abbrev pub HasAbsurd : List Row → Type 0
HasAbsurd rows = (r : Row) × Contains rows r × IsAbsurd (Bound r)
