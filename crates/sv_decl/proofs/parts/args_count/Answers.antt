use Rattle.std.proofs.Common.{arith}
use Rattle.sv_decl.proofs.Views.{noted}
use Rattle.sv_decl.proofs.parts.args_count.Goals as goal

pub returns-in-Positional : goal.returns-in-Positional
returns-in-Positional c = grind (arith, noted)

pub returns-in-Named : goal.returns-in-Named
returns-in-Named c = grind (arith, noted)
