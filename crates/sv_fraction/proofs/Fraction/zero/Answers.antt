use Rattle.std.proofs.Common.{pos}
use Rattle.sv_fraction.proofs.Steps.{whole_reduced}
use Rattle.sv_fraction.proofs.Fraction.zero.Goals as goal

pub invariant_of-result : goal.invariant_of-result
invariant_of-result c = whole_reduced (pos 0)
