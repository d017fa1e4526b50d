-- Believed: quotients rounded down and up. Hold it against the floor and the ceiling of a fraction.
use Rattle.std.specs.Prelude.{◌*ℤ◌, ◌+ℤ◌, ◌<ℤ◌, ◌≤ℤ◌, ℤ}

-- q is a / b rounded down, for a positive b: q times b reaches up to a, and one b more goes past it
abbrev pub IsFloor : ℤ → ℤ → ℤ → Type 0
IsFloor a b q = ((q *ℤ b) ≤ℤ a) × (a <ℤ (q *ℤ b +ℤ b))

-- q is a / b rounded up, for a positive b: q times b reaches a, and not only past it by one b
abbrev pub IsCeiling : ℤ → ℤ → ℤ → Type 0
IsCeiling a b q = (a ≤ℤ (q *ℤ b)) × ((q *ℤ b) <ℤ (a +ℤ b))
