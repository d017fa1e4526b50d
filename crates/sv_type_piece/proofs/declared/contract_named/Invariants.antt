use Rattle.std.proofs.Common.{◌≡◌, drop}
use Rattle.sv_type_piece.specs.DeclaredTypes.{contract_from}
use Rattle.sv_type_piece.proofs.declared.contract_named.Given as goal

abbrev pub invariant-loop-c : goal.invariant-loop-c
invariant-loop-c l = (l.at ≡ l.c-index) × (contract_from l.name l.at (drop l.c-index l.contracts) ≡ contract_from l.name 0 l.contracts)
