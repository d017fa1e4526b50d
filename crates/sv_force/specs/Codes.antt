-- Serves the proof: the codes by which items are found. Any function of an item would do.
use Rattle.std.specs.Prelude.{ℕ, ◌+◌, ◌*◌, ◌%◌, ◌^◌, cond, List, [], ◌∷◌, ℤ, unsigned_abs}
use Rattle.sv_log.specs.LogEntries.{Monomial}
use Rattle.sv_force.specs.InForce.{Held, FactOn, RowOf}

unfoldable pub mixed : ℕ → ℕ → ℕ
mixed code number = (code * 0x9E37_79B9_7F4A_7C15 % 2 ^ 64 + number) % 2 ^ 64

unfoldable pub low : ℤ → ℕ
low number = unsigned_abs number % 2 ^ 64

abbrev pub code_of_parts : ℕ → List Monomial → ℕ
code_of_parts code [] = code
code_of_parts code (p ∷ ps) = code_of_parts (mixed (mixed code (low p.factor)) p.column) ps

abbrev pub code_of : Held → ℕ
code_of (FactOn sign term) = mixed (cond sign 1 0) term
code_of (RowOf r) = code_of_parts (low r.constant) r.parts
