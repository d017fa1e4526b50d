-- Believed: rows of linear arithmetic, their sum, multiples, combination and division. Hold it against Fourier-Motzkin elimination with Gomory's rounding of the constant.
use Rattle.std.specs.Prelude.{ℕ, Bool, false, cond, nat_eq, nat_lt, List, [], ◌∷◌, ◌≡◌, ℤ, pos, negsuc, ◌+ℤ◌, ◌*ℤ◌, ◌≤ℤ◌, ◌<ℤ◌, Option, None, Some}
use Rattle.std.specs.List.{All}
use Rattle.sv_num.specs.Range.{IsI128}
use Rattle.sv_log.specs.LogEntries.{Monomial, Row}

abbrev pub monomial : ℤ → ℕ → Monomial
monomial k x = record { factor = k; column = x }

-- a pair of a number and its column
abbrev pub plain_monomial : ℤ × ℕ → Monomial
plain_monomial p = monomial p.0 p.1

abbrev pub row : ℤ → List Monomial → Row
row k ps = record { constant = k; parts = ps }

-- ---- what a row comes to, where the columns have these values

abbrev pub total : (ℕ → ℤ) → List Monomial → ℤ
total at [] = pos 0
total at (p ∷ ps) = p.factor *ℤ at p.column +ℤ total at ps

abbrev pub amount : (ℕ → ℤ) → Row → ℤ
amount at r = r.constant +ℤ total at r.parts

-- ---- sums and multiples; columns rise, and no number is 0

abbrev pub is_zero : ℤ → Bool
is_zero (pos n) = nat_eq n 0
is_zero (negsuc n) = false

-- k more at the column x; a number 0 leaves nothing
abbrev pub with_part : ℤ → ℕ → List Monomial → List Monomial
with_part k x [] = cond (is_zero k) [] (monomial k x ∷ [])
with_part k x (p ∷ ps) =
    cond (nat_eq x p.column)
    (cond (is_zero (k +ℤ p.factor)) ps (monomial (k +ℤ p.factor) x ∷ ps))
    (cond (nat_lt x p.column) (cond (is_zero k) (p ∷ ps) (monomial k x ∷ p ∷ ps)) (p ∷ with_part k x ps))

abbrev pub with_parts : List Monomial → List Monomial → List Monomial
with_parts [] qs = qs
with_parts (p ∷ ps) qs = with_part p.factor p.column (with_parts ps qs)

abbrev pub sum_of : Row → Row → Row
sum_of r s = row (r.constant +ℤ s.constant) (with_parts r.parts s.parts)

abbrev pub times_parts : ℤ → List Monomial → List Monomial
times_parts k [] = []
times_parts k (p ∷ ps) = monomial (k *ℤ p.factor) p.column ∷ times_parts k ps

abbrev pub times : ℤ → Row → Row
times k r = row (k *ℤ r.constant) (times_parts k r.parts)

-- 0 times a row has no columns
abbrev pub multiple : ℤ → Row → Row
multiple k r = cond (is_zero k) (row (pos 0) []) (times k r)

abbrev pub difference : Row → Row → Row
difference r s = sum_of r (times (negsuc 0) s)

-- ---- numbers in range

abbrev pub FitsRow : Row → Type 0
FitsRow r = IsI128 r.constant × All (λ p. IsI128 p.factor) r.parts

-- ---- combination and division

abbrev pub greatest : List Monomial → Option Monomial
greatest [] = None
greatest (p ∷ []) = Some p
greatest (p ∷ q ∷ ps) = greatest (q ∷ ps)

-- k and l have opposite signs, and m and n are the least positive numbers with which they cancel
pub record Cancels (m n k l : ℤ) : Type 0 where
  pub opposite : (k *ℤ l) <ℤ pos 0
  pub first : pos 0 <ℤ m
  pub second : pos 0 <ℤ n
  pub zero_sum : m *ℤ k +ℤ n *ℤ l ≡ pos 0
  pub least : (i j : ℤ) → pos 0 <ℤ i → pos 0 <ℤ j → i *ℤ k +ℤ j *ℤ l ≡ pos 0 → (m ≤ℤ i) × (n ≤ℤ j)

-- t is m times r and n times s together, which cancels their greatest column; every number of it and of the two multiples is an `i128`
pub record IsCombined (m : ℤ) (r : Row) (n : ℤ) (s : Row) (t : Row) : Type 0 where
  pub cancels : (p q : Monomial) × (greatest r.parts ≡ Some p) × (greatest s.parts ≡ Some q) × (p.column ≡ q.column) × Cancels m n p.factor q.factor
  pub multiples : FitsRow (times m r) × FitsRow (times n s)
  pub fits : FitsRow t
  pub is : t ≡ sum_of (times m r) (times n s)

-- t is r with each number divided by d, the constant's quotient rounded up
pub record IsDivided (d : ℤ) (r : Row) (t : Row) : Type 0 where
  pub more : pos 2 ≤ℤ d
  pub parts : r.parts ≡ times_parts d t.parts
  pub above : r.constant ≤ℤ (d *ℤ t.constant)
  pub below : (d *ℤ t.constant) <ℤ (r.constant +ℤ d)
