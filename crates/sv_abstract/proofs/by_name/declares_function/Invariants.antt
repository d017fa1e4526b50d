use Rattle.std.proofs.Common.{◌≡◌, drop}
use Rattle.sv_abstract.specs.BodilessFunctions.{declares_function}
use Rattle.sv_abstract.proofs.by_name.declares_function.Given as goal

abbrev pub invariant-loop-d : goal.invariant-loop-d
invariant-loop-d l = declares_function l.name (drop l.d-index l.list) ≡ declares_function l.name l.list
