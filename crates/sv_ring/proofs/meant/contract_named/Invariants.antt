use Rattle.std.proofs.Common.{◌≡◌, drop}
use Rattle.sv_ring.specs.RingSteps.{contract_from}
use Rattle.sv_ring.proofs.meant.contract_named.Given as goal

abbrev pub invariant-loop-c : goal.invariant-loop-c
invariant-loop-c l = contract_from l.name l.number (drop l.c-index l.contracts) ≡ contract_from l.name 0 l.contracts
