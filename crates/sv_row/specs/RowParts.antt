-- Believed: the parts of rows as the code has them, rows in normal form, the sum of two multiples, and the greatest divisor of a row's numbers. Hold it against the README of `sv_log`, the sum of linear forms and the greatest common divisor of several numbers.
use Rattle.std.specs.Prelude.{ℕ, ◌<◌, List, [], ◌∷◌, ◌≡◌, map, ℤ, pos, unsigned_abs}
use Rattle.std.specs.List.{All}
use Rattle.std.specs.Int.{◌∣◌}
use Rattle.sv_num.specs.Range.{IsI128}
use Rattle.sv_log.specs.LogEntries.{Monomial}
use Rattle.sv_log.specs.LogRows.{plain_monomial, with_parts, times_parts}

abbrev pub monomials : List (ℤ × ℕ) → List Monomial
monomials ps = map plain_monomial ps

-- ---- columns that rise, and numbers that are not 0

-- the columns are above x
abbrev pub AreAbove : ℕ → List Monomial → Type 0
AreAbove x [] = Unit {0}
AreAbove x (p ∷ ps) = (x < p.column) × AreAbove x ps

abbrev pub AreRising : List Monomial → Type 0
AreRising [] = Unit {0}
AreRising (p ∷ ps) = AreAbove p.column ps × AreRising ps

abbrev pub AreNonZero : List Monomial → Type 0
AreNonZero [] = Unit {0}
AreNonZero (p ∷ ps) = (p.factor ≡ pos 0 → ⊥) × AreNonZero ps

-- the normal form of a row's parts
pub record IsNormal (ps : List Monomial) : Type 0 where
  pub rising : AreRising ps
  pub non_zero : AreNonZero ps

-- ---- the sum of two multiples

abbrev pub AreInRange : List Monomial → Type 0
AreInRange ps = All (λ p. IsI128 p.factor) ps

abbrev pub sum_of_multiples : ℤ → List Monomial → ℤ → List Monomial → List Monomial
sum_of_multiples m ps n qs = with_parts (times_parts m ps) (times_parts n qs)

-- each number of the two multiples and of their sum is an `i128`
pub record FitsMultiples (m : ℤ) (ps : List Monomial) (n : ℤ) (qs : List Monomial) : Type 0 where
  pub first : AreInRange (times_parts m ps)
  pub second : AreInRange (times_parts n qs)
  pub sum : AreInRange (sum_of_multiples m ps n qs)

-- ---- division

abbrev pub Divides : ℕ → List Monomial → Type 0
Divides d [] = Unit {0}
Divides d (p ∷ ps) = (d ∣ unsigned_abs p.factor) × Divides d ps

-- d divides each number of the parts, and is divided by each number that does
pub record IsGreatestDivisor (ps : List Monomial) (d : ℕ) : Type 0 where
  pub divides : Divides d ps
  pub greatest : (e : ℕ) → Divides e ps → e ∣ d
