use Rattle.std.proofs.Common.{◌≡◌, drop}
use Rattle.sv_abstract.specs.BodilessFunctions.{has_variable}
use Rattle.sv_abstract.proofs.bodiless.has_variable.Given as goal

abbrev pub invariant-loop-c : goal.invariant-loop-c
invariant-loop-c l = has_variable l.contracts l.name (drop l.c-index l.line) ≡ has_variable l.contracts l.name l.line
