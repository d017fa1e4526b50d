use Rattle.std.proofs.Common.{◌≡◌, drop}
use Rattle.sv_heirs.specs.Sooner.{has}
use Rattle.sv_heirs.proofs.heirs.has.Given as goal

abbrev pub invariant-loop-x : goal.invariant-loop-x
invariant-loop-x l = has (drop l.x-index l.line) l.d ≡ has l.line l.d
