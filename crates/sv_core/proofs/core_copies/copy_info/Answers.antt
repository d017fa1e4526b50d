use Rattle.std.proofs.Common.{arith}
use Rattle.sv_core.proofs.core_copies.copy_info.Goals as goal

pub returns-in_err-from_slice-in-Struct : goal.returns-in_err-from_slice-in-Struct
returns-in_err-from_slice-in-Struct c = grind arith

pub returns-in-Uint : goal.returns-in-Uint
returns-in-Uint c = grind arith

pub returns-in-Int : goal.returns-in-Int
returns-in-Int c = grind arith

pub returns-in-Bool : goal.returns-in-Bool
returns-in-Bool c = grind arith

pub returns-in-Address : goal.returns-in-Address
returns-in-Address c = grind arith

pub returns-in-Contract : goal.returns-in-Contract
returns-in-Contract c = grind arith

pub returns-in-Enum : goal.returns-in-Enum
returns-in-Enum c = grind arith

pub returns-in_ok-from_slice-in-Struct : goal.returns-in_ok-from_slice-in-Struct
returns-in_ok-from_slice-in-Struct c = grind arith

pub returns-in-Fixed : goal.returns-in-Fixed
returns-in-Fixed c = grind arith

pub returns-in-Dynamic : goal.returns-in-Dynamic
returns-in-Dynamic c = grind arith

pub returns-in-Mapping : goal.returns-in-Mapping
returns-in-Mapping c = grind arith
