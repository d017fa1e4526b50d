use Rattle.std.proofs.Common.{arith}
use Rattle.sv_decl.proofs.Views.{noted}
use Rattle.sv_decl.proofs.pieces.last_piece.Goals as goal

pub returns-in-Elementary : goal.returns-in-Elementary
returns-in-Elementary c = grind (arith, noted)

pub returns-in-Address : goal.returns-in-Address
returns-in-Address c = grind (arith, noted)

pub returns-in-String : goal.returns-in-String
returns-in-String c = grind (arith, noted)

pub returns-in-None : goal.returns-in-None
returns-in-None c = grind (arith, noted)

pub returns-in-Some : goal.returns-in-Some
returns-in-Some c = grind (arith, noted)

pub returns-in-Mapping : goal.returns-in-Mapping
returns-in-Mapping c = grind (arith, noted)
