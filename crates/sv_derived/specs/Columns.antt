-- Serves the proof: one column of two rows and of their sum.
use Rattle.std.specs.Prelude.{ℕ, ◌≤◌, ℤ, pos, ◌≡◌, ◌⊎◌, List, [], ◌∷◌, ◌++◌, Option, MatchOption}
use Rattle.std.specs.Borrow.{Bor}
use Rattle.sv_log.specs.LogEntries.{Monomial}
use Rattle.sv_log.specs.LogRows.{monomial}
use Rattle.sv_row.specs.RowParts.{monomials, AreAbove, IsNormal}
use Rattle.sv_row.specs.SumSteps.{part}
use Rattle.sv_derived.specs.RowSums.{IsRowSum}

-- no column is below x
abbrev pub IsFrom : ℕ → List Monomial → Type 0
IsFrom x [] = Unit {0}
IsFrom x (p ∷ ps) = x ≤ p.column

abbrev pub BeginsAt : ℕ → List Monomial → Type 0
BeginsAt x [] = ⊥
BeginsAt x (p ∷ ps) = x ≡ p.column

-- x is the first column of one of them, and none is before it
pub record IsLeast (ps qs : List Monomial) (x : ℕ) : Type 0 where
  pub first : IsFrom x ps
  pub second : IsFrom x qs
  pub one : BeginsAt x ps ⊎ BeginsAt x qs

-- the number k stands at the column x, before the rest; or none does, and k is 0
pub record TakesAt (x : ℕ) (ps : List Monomial) (k : ℤ) (rest : List Monomial) : Type 0 where
  pub normal : IsNormal rest
  pub above : AreAbove x rest
  pub is : ((ps ≡ monomial k x ∷ rest) × (k ≡ pos 0 → ⊥)) ⊎ ((ps ≡ rest) × (k ≡ pos 0))

-- the rest stands behind the part, or nothing does
abbrev pub LeavesBehind : ℤ → ℕ → List Monomial → Option (Bor (List (ℤ × ℕ))) → Type 0
LeavesBehind k x made r = MatchOption r ((ts : List Monomial) → made ≡ part k x ++ ts → ⊥) (λ rest. made ≡ part k x ++ monomials rest.now)

-- a row sum of rows that are written as pairs
abbrev pub AddsUp : ℤ → ℤ → List (ℤ × ℕ) → ℤ → ℤ → List (ℤ × ℕ) → ℤ → List (ℤ × ℕ) → Type 0
AddsUp m j own n k other t made = IsRowSum m j (monomials own) n k (monomials other) t (monomials made)
