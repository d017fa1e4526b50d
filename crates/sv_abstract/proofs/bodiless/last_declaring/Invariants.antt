use Rattle.std.proofs.Common.{◌≡◌, drop, None}
use Rattle.sv_abstract.specs.BodilessFunctions.{last_from}
use Rattle.sv_abstract.proofs.bodiless.last_declaring.Given as goal

abbrev pub invariant-loop-c : goal.invariant-loop-c
invariant-loop-c l = last_from l.contracts l.name l.last (drop l.c-index l.line) ≡ last_from l.contracts l.name None l.line
