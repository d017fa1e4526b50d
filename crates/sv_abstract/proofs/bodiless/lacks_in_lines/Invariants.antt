use Rattle.std.proofs.Common.{◌≡◌, drop}
use Rattle.sv_abstract.specs.BodilessFunctions.{lacks_from}
use Rattle.sv_abstract.proofs.bodiless.lacks_in_lines.Given as goal

abbrev pub invariant-loop-line : goal.invariant-loop-line
invariant-loop-line l = (l.at ≡ l.line-index) × (lacks_from l.contracts l.d l.name l.at (drop l.line-index l.lines) ≡ lacks_from l.contracts l.d l.name 0 l.lines)
