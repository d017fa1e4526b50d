-- Believed: what the parts of a sum of multiples of two rows are. Hold it against the README of `sv_log`.
use Rattle.std.specs.Prelude.{ℤ, pos, ◌+ℤ◌, ◌*ℤ◌, ◌≡◌, List, [], ◌∷◌}
use Rattle.sv_num.specs.Range.{IsI128}
use Rattle.sv_log.specs.LogEntries.{Monomial}
use Rattle.sv_row.specs.RowParts.{FitsMultiples, sum_of_multiples}

-- the parts are those of m times the one and n times the other together, and every number is an `i128`
pub record IsSumOf (m : ℤ) (ps : List Monomial) (n : ℤ) (qs ts : List Monomial) : Type 0 where
  pub fits : FitsMultiples m ps n qs
  pub is : ts ≡ sum_of_multiples m ps n qs

-- the row of constant t is the two multiples together, and every number is an `i128`
pub record IsRowSum (m j : ℤ) (ps : List Monomial) (n k : ℤ) (qs : List Monomial) (t : ℤ) (ts : List Monomial) : Type 0 where
  pub multiples : IsI128 (m *ℤ j) × IsI128 (n *ℤ k)
  pub fits : IsI128 t
  pub is : t ≡ m *ℤ j +ℤ n *ℤ k
  pub parts : IsSumOf m ps n qs ts
