use Rattle.std.proofs.Common.{arith}
use Rattle.std.proofs.lemmas.Grind.{common_steps}
use Rattle.sv_visit_unit.proofs.units.walk_contract.Goals as goal

pub returns-in_err-before : goal.returns-in_err-before
returns-in_err-before g c = grind (arith, common_steps)

pub returns-in_err-walk_contract_kind : goal.returns-in_err-walk_contract_kind
returns-in_err-walk_contract_kind g c = grind (arith, common_steps)

pub returns : goal.returns
returns g c = grind (arith, common_steps)
