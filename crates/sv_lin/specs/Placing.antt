-- Serves the proof: places of columns, the bounds that a side sets, and the fraction that is chosen between two.
use Rattle.std.specs.Prelude.{ℕ, List, ◌∷◌, ◌++◌, map, length, ◌≡◌, ◌⊎◌, ℤ, pos, ◌<ℤ◌, ◌≤ℤ◌, Some, slice_get, Result, MatchResult}
use Rattle.std.specs.List.{Contains}
use Rattle.sv_log.specs.LogEntries.{Row}
use Rattle.sv_fraction.specs.Fractions.{Ratio, ratio, IsReduced}
use Rattle.sv_point.specs.NearestPoints.{IsRowOf, IsAtMost, IsNearestAt}
use Rattle.sv_point.specs.PointLaws.{IsBoundOf}
use Rattle.sv_lin.specs.Eliminations.{Placed, value_in, ExceedsRow}
use Rattle.sv_cert.specs.declared.log.Row.{Row as CodeRow}
use Rattle.sv_lin.specs.declared.work.Work.{Work}
use Rattle.sv_lin.specs.UnderWay.{EachColumn, AreSides, AreReadable}
use Rattle.sv_lin.specs.Holding.{held}
use Rattle.sv_lin.specs.declared.place.Place.{Place}
use Rattle.sv_lin.specs.declared.point.Limit.{Limit}
use Rattle.sv_lin.specs.declared.point.Limit.TheVariants as l
use Rattle.sv_lin.specs.declared.point.Side.{Side}
use Rattle.sv_lin.specs.declared.point.Side.TheVariants as s
use Rattle.sv_lin.specs.declared.point.Placing.{Placing}
use Rattle.sv_lin.specs.declared.point.Placing.TheVariants as p

abbrev pub placed : Place → Placed
placed p = record { column = p.column; value = p.value }

abbrev pub point_of : List Place → ℕ → Ratio
point_of ps = value_in (map placed ps)

abbrev pub columns_placed : List Place → List ℕ
columns_placed ps = map (λ p. p.column) (map placed ps)

-- ---- bounds

-- the row's bound exceeds, and x is its greatest column
abbrev pub ExceedsAt : (ℕ → Ratio) → ℕ → Row → Type 0
ExceedsAt at x r = (e : ExceedsRow at r) × (e.column ≡ x)

abbrev pub IsAt : List Row → ℕ → ℕ → Type 0
IsAt rows x p = (k : ℤ) × (r : Row) × (slice_get rows p ≡ Some r) × IsRowOf x k r

-- g is the bound of row p
abbrev pub HasBound : List Row → (ℕ → Ratio) → ℕ → ℕ → Ratio → Type 0
HasBound rows at x p g = (k : ℤ) × (r : Row) × (slice_get rows p ≡ Some r) × IsBoundOf at x k r g

-- an upper bound g is at most h, a lower one at least
abbrev pub Keeps : Side → Ratio → Ratio → Type 0
Keeps s.Upper g h = IsAtMost g h
Keeps s.Lower g h = IsAtMost h g

abbrev pub Tightens : Side → Limit → Ratio → Limit → Type 0
Tightens side (l.At f) g best = ((best ≡ l.At f) × Keeps side f g) ⊎ ((best ≡ l.At g) × Keeps side g f)
Tightens side old g best = best ≡ l.At g

-- the tightest bound of the rows ps of the column x, or one that exceeds
abbrev pub IsTightest : List Row → (ℕ → Ratio) → ℕ → Side → List ℕ → Limit → Type 0
IsTightest rows at x side ps l.Unlimited = (p : ℕ) → Contains ps p → ⊥
IsTightest rows at x side ps (l.At g) = ((p : ℕ) × Contains ps p × HasBound rows at x p g)
    × ((p : ℕ) → Contains ps p → (h : Ratio) × HasBound rows at x p h × Keeps side g h)
IsTightest rows at x side ps (l.Exceeds i) = Contains ps i × (r : Row) × (slice_get rows i ≡ Some r) × ExceedsAt at x r

-- ---- the choice

abbrev pub IsNotAbove : Limit → Type 0
IsNotAbove (l.At g) = g.top ≤ℤ pos 0
IsNotAbove limit = Unit {0}

abbrev pub IsNotBelow : Limit → Type 0
IsNotBelow (l.At g) = pos 0 ≤ℤ g.top
IsNotBelow limit = Unit {0}

-- a lower bound above 0, or an upper bound below 0, or 0
abbrev pub Chooses : Limit → Limit → Ratio → Type 0
Chooses lower upper f =
    ((lower ≡ l.At f) × (pos 0 <ℤ f.top))
    ⊎ (((upper ≡ l.At f) × (f.top <ℤ pos 0))
    ⊎ ((f ≡ ratio (pos 0) (pos 1)) × IsNotAbove lower × IsNotBelow upper))

-- no bound exceeds
abbrev pub IsWithin : Limit → Type 0
IsWithin limit = (i : ℕ) → limit ≡ l.Exceeds i → ⊥

-- f is chosen between the tightest bounds of the rows of x
pub record IsFractionAt (rows : List Row) (at : ℕ → Ratio) (x : ℕ) (f : Ratio) : Type 0 where
  pub uppers : List ℕ
  pub lowers : List ℕ
  pub upper : Limit
  pub lower : Limit
  pub sides : AreSides rows x (length rows) uppers lowers
  pub tight_upper : IsTightest rows at x s.Upper uppers upper
  pub tight_lower : IsTightest rows at x s.Lower lowers lower
  pub within : IsWithin upper × IsWithin lower
  pub chooses : Chooses lower upper f

-- the bound of row i exceeds at its greatest column x
abbrev pub DoesExceed : List Row → (ℕ → Ratio) → ℕ → ℕ → Type 0
DoesExceed rows at x i = (r : Row) × (slice_get rows i ≡ Some r) × ExceedsAt at x r

-- ---- the columns so far

abbrev pub AreReduced : (ℕ → Ratio) → Type 0
AreReduced at = (x : ℕ) → IsReduced (at x)

-- the columns cs have places, and these are the nearest
pub record ArePlaced (rows : List Row) (cs : List ℕ) (ps : List Place) : Type 0 where
  pub columns : columns_placed ps ≡ cs
  pub reduced : AreReduced (point_of ps)
  pub nearest : (x : ℕ) → Contains cs x → IsNearestAt rows (point_of ps) x

-- the columns before that of row i have places, and its bound exceeds there
pub record StopsAt (rows : List Row) (cs : List ℕ) (i : ℕ) (ps : List Place) : Type 0 where
  pub before : List ℕ
  pub x : ℕ
  pub after : List ℕ
  pub split : cs ≡ before ++ x ∷ after
  pub placed : ArePlaced rows before ps
  pub row : Row
  pub is : slice_get rows i ≡ Some row
  pub exceeds : ExceedsAt (point_of ps) x row

abbrev pub Places : List Row → List ℕ → Placing → Type 0
Places rows cs (p.All ps) = ArePlaced rows cs ps.items
Places rows cs (p.Exceeds i ps) = StopsAt rows cs i ps.items

-- each column of the rows is one of these
abbrev pub AreOfColumns : List Row → List ℕ → Type 0
AreOfColumns rows cs = (r : Row) → Contains rows r → EachColumn (Contains cs) r.parts

-- ---- the same of what the code holds

abbrev pub CanBePlaced : List CodeRow → Work → List Place → Type 0
CanBePlaced rows work places = AreReadable rows work.made.items × AreReduced (point_of places)

abbrev pub AreNumbersOf : List CodeRow → Work → ℕ → List ℕ → Type 0
AreNumbersOf rows work x ps = (p : ℕ) → Contains ps p → IsAt (held rows work) x p

-- the tightest of the bounds that the rows of these numbers set to their column
abbrev pub Tightest : List CodeRow → Work → List Place → Side → List ℕ → Limit → Type 0
Tightest rows work places side ps best = (x : ℕ) → AreNumbersOf rows work x ps → IsTightest (held rows work) (point_of places) x side ps best

abbrev pub IsFound : List Row → (ℕ → Ratio) → ℕ → Result Ratio ℕ → Type 0
IsFound rows at x found = MatchResult found (λ f. IsFractionAt rows at x f) (λ i. DoesExceed rows at x i)
