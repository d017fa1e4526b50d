use Rattle.std.proofs.Common.{arith}
use Rattle.sv_decl.proofs.Views.{noted}
use Rattle.sv_decl.proofs.pieces.bracket.Goals as goal

pub returns-in-None : goal.returns-in-None
returns-in-None c = grind (arith, noted)

pub returns-in-Some : goal.returns-in-Some
returns-in-Some c = grind (arith, noted)
