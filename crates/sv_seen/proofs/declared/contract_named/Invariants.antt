use Rattle.std.proofs.Common.{◌≡◌, drop}
use Rattle.sv_seen.specs.NameMeanings.{contract_from}
use Rattle.sv_seen.proofs.declared.contract_named.Given as goal

abbrev pub invariant-loop-c : goal.invariant-loop-c
invariant-loop-c l = contract_from l.name l.number (drop l.c-index l.contracts) ≡ contract_from l.name 0 l.contracts
