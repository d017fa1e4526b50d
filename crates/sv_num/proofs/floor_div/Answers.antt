use Rattle.std.proofs.Common.{arith, to_z-of_z}
use Rattle.std.proofs.lemmas.Int.{ints}
use Rattle.sv_num.proofs.Quotients.{floor_is}
use Rattle.sv_num.proofs.floor_div.Goals as goal

pub returns : goal.returns
returns c = let e = floor_is c.args.a c.args.b c.requires in grind (arith, ints, to_z-of_z)
