use Rattle.std.proofs.Common.{arith, to_z-of_z}
use Rattle.std.proofs.lemmas.Int.{ints}
use Rattle.sv_num.proofs.Quotients.{ceiling_is, ceiling_above}
use Rattle.sv_num.proofs.ceil_div.Goals as goal

pub returns-then-rem_euclid-eq0 : goal.returns-then-rem_euclid-eq0
returns-then-rem_euclid-eq0 c = let e = ceiling_is c.args.a c.args.b c.requires in let s = c.div_euclid-floor.ensures in grind (arith, ints, to_z-of_z)

pub returns-else-rem_euclid-eq0 : goal.returns-else-rem_euclid-eq0
returns-else-rem_euclid-eq0 c = let e = ceiling_above c.args.a c.args.b c.requires in let s = c.div_euclid-floor.ensures in let t = c.rem_euclid.ensures.value in let u = c.if-rem_euclid-eq0.false in grind (arith, ints, to_z-of_z)
