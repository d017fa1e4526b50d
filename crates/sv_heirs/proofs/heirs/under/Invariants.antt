use Rattle.std.proofs.Common.{◌≡◌, drop, None}
use Rattle.sv_heirs.specs.Sooner.{least_from, pair_breach}
use Rattle.sv_heirs.proofs.heirs.under.Given as goal

abbrev pub invariant-loop-d : goal.invariant-loop-d
invariant-loop-d l = let f = pair_breach l.places l.lines l.c in least_from f l.found (drop l.d-index l.line) ≡ least_from f None l.line
