-- Believed: points, rows that are met at a point, the nearest fraction of a column, and working out a row at a point. Hold it against the meaning of a linear inequality over the rational numbers.
use Rattle.std.specs.Prelude.{ℕ, ◌<◌, cond, nat_eq, List, [], ◌∷◌, ◌++◌, ◌≡◌, ℤ, pos, ◌*ℤ◌, ◌≤ℤ◌, ◌<ℤ◌}
use Rattle.std.specs.List.{Contains}
use Rattle.sv_log.specs.LogEntries.{Monomial, Row}
use Rattle.sv_log.specs.LogRows.{monomial}
use Rattle.sv_fraction.specs.Fractions.{Ratio, ratio, sum_with, IsSum, magnitude}

-- ---- rows

-- the columns are below x
abbrev pub AreBelow : ℕ → List Monomial → Type 0
AreBelow x [] = Unit {0}
AreBelow x (p ∷ ps) = (p.column < x) × AreBelow x ps

-- x is the greatest column of the row, with the number k there; lows are the others
pub record IsRowOf (x : ℕ) (k : ℤ) (r : Row) : Type 0 where
  pub lows : List Monomial
  pub is : r.parts ≡ lows ++ monomial k x ∷ []
  pub below : AreBelow x lows

-- ---- what a row comes to at a point, which gives each column a fraction

abbrev pub amount_from : (ℕ → Ratio) → Ratio → List Monomial → Ratio
amount_from at f [] = f
amount_from at f (p ∷ ps) = amount_from at (sum_with f p.factor (at p.column)) ps

-- the constant and the parts together, exact
abbrev pub worth : (ℕ → Ratio) → ℤ → List Monomial → Ratio
worth at k ps = amount_from at (ratio k (pos 1)) ps

abbrev pub IsMet : (ℕ → Ratio) → Row → Type 0
IsMet at r = (worth at r.constant r.parts).top ≤ℤ pos 0

-- the point with the fraction f at the column x
abbrev pub with_value : (ℕ → Ratio) → ℕ → Ratio → ℕ → Ratio
with_value at x f y = cond (nat_eq y x) f (at y)

-- ---- the nearest point

abbrev pub IsAtMost : Ratio → Ratio → Type 0
IsAtMost f g = (f.top *ℤ g.under) ≤ℤ (g.top *ℤ f.under)

-- f is as near to 0 as g, or nearer
abbrev pub IsAsNear : Ratio → Ratio → Type 0
IsAsNear f g = (magnitude f.top *ℤ g.under) ≤ℤ (magnitude g.top *ℤ f.under)

-- with the fraction f at x, and the other columns as they are, each row of x is met
abbrev pub MeetsAt : List Row → (ℕ → Ratio) → ℕ → Ratio → Type 0
MeetsAt rows at x f = (k : ℤ) (r : Row) → Contains rows r → IsRowOf x k r → IsMet (with_value at x f) r

-- of the fractions with which each row of x is met, that of the point is the nearest to 0
pub record IsNearestAt (rows : List Row) (at : ℕ → Ratio) (x : ℕ) : Type 0 where
  pub meets : MeetsAt rows at x (at x)
  pub nearest : (f : Ratio) → pos 0 <ℤ f.under → MeetsAt rows at x f → IsAsNear (at x) f

-- ---- working out, with lowest terms after each step

abbrev pub IsWorth : (ℕ → Ratio) → Ratio → List Monomial → Ratio → Type 0
IsWorth at f [] g = f ≡ g
IsWorth at f (p ∷ ps) g = (h : Ratio) × IsSum f p.factor (at p.column) h × IsWorth at h ps g
