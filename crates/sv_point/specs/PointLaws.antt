-- Believed: the statements of the laws on bounds. Hold it against the proof that elimination of a column keeps what can be met.
use Rattle.std.specs.Prelude.{ℕ, ◌<◌, ◌*◌, List, ◌≡◌, ◌⊎◌, ℤ, pos, neg_ℤ, ◌<ℤ◌}
use Rattle.std.specs.List.{Contains}
use Rattle.sv_log.specs.LogEntries.{Row}
use Rattle.sv_log.specs.LogRows.{sum_of, times}
use Rattle.sv_fraction.specs.Fractions.{Ratio, ratio, IsSame, IsBound}
use Rattle.sv_point.specs.NearestPoints.{IsRowOf, worth, IsMet, with_value, IsAtMost, IsWorth, IsNearestAt}

-- each column has a positive denominator
abbrev pub ArePositive : (ℕ → Ratio) → Type 0
ArePositive at = (x : ℕ) → pos 0 <ℤ (at x).under

-- the row's bound: where k times the column and the rest of the row are 0 together
pub record IsBoundOf (at : ℕ → Ratio) (x : ℕ) (k : ℤ) (r : Row) (g : Ratio) : Type 0 where
  pub row : IsRowOf x k r
  pub rest : Ratio
  pub positive : pos 0 <ℤ rest.under
  pub worth_is : IsSame rest (worth at r.constant row.lows)
  pub bound : IsBound rest k g

-- a row with a positive number at its column is met exactly at and below its bound, one with a negative number at and above
abbrev pub BoundsAreExact : Type 0
BoundsAreExact = (at : ℕ → Ratio) (x : ℕ) (k : ℤ) (r : Row) (g f : Ratio) → ArePositive at → IsBoundOf at x k r g → pos 0 <ℤ f.under
    → (pos 0 <ℤ k → (IsMet (with_value at x f) r → IsAtMost f g) × (IsAtMost f g → IsMet (with_value at x f) r))
    × (k <ℤ pos 0 → (IsMet (with_value at x f) r → IsAtMost g f) × (IsAtMost g f → IsMet (with_value at x f) r))

-- where what two rows of a column make by cancelling it is met, the lower bound is at most the upper bound
abbrev pub BoundsAreCrossed : Type 0
BoundsAreCrossed = (at : ℕ → Ratio) (x k l m n : ℕ) (r s : Row) (g h : Ratio) → ArePositive at
    → 0 < k → 0 < l → 0 < m → 0 < n → m * k ≡ n * l
    → IsBoundOf at x (pos k) r g → IsBoundOf at x (neg_ℤ (pos l)) s h
    → IsMet at (sum_of (times (pos m) r) (times (pos n) s)) → IsAtMost h g

-- each row of the column has a bound, which the point keeps; and the point has 0 there, or a lower bound above 0, or an upper bound below 0
pub record IsChosen (rows : List Row) (at : ℕ → Ratio) (x : ℕ) : Type 0 where
  pub kept : (k : ℤ) (r : Row) → Contains rows r → IsRowOf x k r
      → (g : Ratio) × IsBoundOf at x k r g × (((pos 0 <ℤ k) × IsAtMost (at x) g) ⊎ ((k <ℤ pos 0) × IsAtMost g (at x)))
  pub from : ((at x).top ≡ pos 0)
      ⊎ ((pos 0 <ℤ (at x).top) × (k : ℤ) × (r : Row) × Contains rows r × IsBoundOf at x k r (at x) × (k <ℤ pos 0))
      ⊎ (((at x).top <ℤ pos 0) × (k : ℤ) × (r : Row) × Contains rows r × IsBoundOf at x k r (at x) × (pos 0 <ℤ k))

-- what is so chosen is the nearest
abbrev pub ChosenIsNearest : Type 0
ChosenIsNearest = (rows : List Row) (at : ℕ → Ratio) (x : ℕ) → ArePositive at → IsChosen rows at x → IsNearestAt rows at x

-- a row that is worked out step by step comes to what it is worth
abbrev pub WorthIsExact : Type 0
WorthIsExact = (at : ℕ → Ratio) (r : Row) (x : ℕ) (k : ℤ) (t : IsRowOf x k r) (f : Ratio) → ArePositive at
    → IsWorth at (ratio r.constant (pos 1)) t.lows f → (pos 0 <ℤ f.under) × IsSame f (worth at r.constant t.lows)
