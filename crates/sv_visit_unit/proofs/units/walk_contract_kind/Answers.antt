use Rattle.std.proofs.Common.{arith}
use Rattle.std.proofs.lemmas.Grind.{common_steps}
use Rattle.sv_visit_unit.proofs.units.walk_contract_kind.Goals as goal

pub returns-in_err-walk_notes-in-Contract : goal.returns-in_err-walk_notes-in-Contract
returns-in_err-walk_notes-in-Contract g c = grind (arith, common_steps)

pub returns-in_err-walk_bases-in-Contract : goal.returns-in_err-walk_bases-in-Contract
returns-in_err-walk_bases-in-Contract g c = grind (arith, common_steps)

pub returns-in_err-walk_bases-in-Interface : goal.returns-in_err-walk_bases-in-Interface
returns-in_err-walk_bases-in-Interface g c = grind (arith, common_steps)

pub returns-in_ok-walk_bases-in-Contract : goal.returns-in_ok-walk_bases-in-Contract
returns-in_ok-walk_bases-in-Contract g c = grind (arith, common_steps)

pub returns-in_ok-walk_bases-in-Interface : goal.returns-in_ok-walk_bases-in-Interface
returns-in_ok-walk_bases-in-Interface g c = grind (arith, common_steps)
