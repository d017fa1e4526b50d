use Rattle.std.proofs.Common.{◌≡◌, drop}
use Rattle.sv_base.specs.BaseNumbers.{has_contract}
use Rattle.sv_base.proofs.line.has_contract.Given as goal

abbrev pub invariant-loop-b : goal.invariant-loop-b
invariant-loop-b l = has_contract l.contracts (drop l.b-index l.bases) ≡ has_contract l.contracts l.bases
