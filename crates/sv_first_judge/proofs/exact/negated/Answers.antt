use Rattle.std.proofs.Common.{arith}
use Rattle.std.proofs.lemmas.Int.{ints}
use Rattle.sv_first_judge.proofs.NumberLemmas.{fits_number}
use Rattle.sv_first_judge.proofs.exact.negated.Goals as goal

pub unwrap-requires : goal.unwrap-requires
unwrap-requires c = c.mul.ensures.exact.1 (fits_number _ (omega (arith, ints)))
