use Rattle.std.proofs.Common.{◌≡◌, drop, None}
use Rattle.sv_heirs.specs.Sooner.{least_from, line_breach}
use Rattle.sv_heirs.proofs.heirs.first_breach.Given as goal

abbrev pub invariant-loop-line : goal.invariant-loop-line
invariant-loop-line l = let f = line_breach l.places l.lines in least_from f l.found (drop l.line-index l.lines) ≡ least_from f None l.lines
