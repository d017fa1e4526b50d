use Rattle.std.proofs.Common.{ℕ, ap, length, arith, length-append, length-take}
use Rattle.sv_pattern.proofs.opening.append.Goals as goal

pub push-requires : goal.push-requires
push-requires c = let e = ap length c.loop-n.invariant.items in omega (arith, e, length-append {A = ℕ}, length-take {A = ℕ})
