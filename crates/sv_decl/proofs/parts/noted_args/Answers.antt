use Rattle.std.proofs.Common.{arith}
use Rattle.sv_decl.proofs.Views.{noted}
use Rattle.sv_decl.proofs.parts.noted_args.Goals as goal

pub returns : goal.returns
returns c = grind (arith, noted)
