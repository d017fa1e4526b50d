-- Believed: the answers of elimination, and what each says. Hold it against the README's table of answers.
use Rattle.std.specs.Prelude.{ℕ, List, map, ℤ}
use Rattle.sv_term.specs.declared.node.TermId.{TermId}
use Rattle.sv_log.specs.LogEntries.{Row, Entry}
use Rattle.sv_fraction.specs.Fractions.{ratio}
use Rattle.sv_cert.specs.PlainLogs.{plain_entry}
use Rattle.sv_lin.specs.Eliminations.{in_force, Placed, IsContradiction, IsPoint, IsSpent, IsExcess, AreExceedingRows, IsExceedingValue}
use Rattle.sv_lin.specs.declared.answer.Eliminated.{Eliminated}
use Rattle.sv_lin.specs.declared.answer.Eliminated.TheVariants as a
use Rattle.sv_cert.specs.declared.excess.Excess.{Excess}
use Rattle.sv_cert.specs.declared.excess.Excess.TheVariants as e

-- a column with its numerator and denominator
abbrev pub placed_by : TermId × ℤ × ℤ → Placed
placed_by p = record { column = p.0.0; value = ratio p.1 p.2 }

abbrev pub Exceeds : List Row → List Entry → Excess → Type 0
Exceeds rows es (e.Rows i j) = AreExceedingRows (in_force rows es) i j
Exceeds rows es (e.Value i ps) = IsExceedingValue rows es i (map placed_by ps)
Exceeds rows es cause = ⊥

abbrev pub IsAnswer : List Row → ℕ → Eliminated → Type 0
IsAnswer rows limit (a.Contradiction es) = IsContradiction rows (map plain_entry es)
IsAnswer rows limit (a.Point es ps) = IsPoint rows (map plain_entry es) (map placed_by ps)
IsAnswer rows limit (a.Excess es x) = IsExcess rows (map plain_entry es) × Exceeds rows (map plain_entry es) x
IsAnswer rows limit (a.Spent es) = IsSpent rows limit (map plain_entry es)
