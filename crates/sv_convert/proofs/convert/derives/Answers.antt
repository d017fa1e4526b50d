use Rattle.std.proofs.Common.{nat_eq}
use Rattle.sv_convert.proofs.Listed.{none_listed, listed}
use Rattle.sv_convert.proofs.convert.derives.Goals as goal

pub returns-in-None : goal.returns-in-None
returns-in-None c = none_listed (λ x. nat_eq x c.args.base) c.args.bases.now c.args.contract c.in-None.ensures

pub returns-in-Some : goal.returns-in-Some
returns-in-Some c = listed (λ x. nat_eq x c.args.base) c.args.bases.now c.args.contract c.in-Some.line.now c.as_slice.result.now c.contains.result c.in-Some.ensures c.as_slice.ensures c.contains.ensures.value
