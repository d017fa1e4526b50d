use Rattle.std.proofs.Common.{arith, to_z-of_z}
use Rattle.std.proofs.lemmas.Int.{ints}
use Rattle.sv_num.proofs.combine.Goals as goal

pub returns-clause-value : goal.returns-clause-value
returns-clause-value c = grind (arith, ints, to_z-of_z)

pub returns-clause-exact : goal.returns-clause-exact
returns-clause-exact c = (λ s. (grind (arith, ints, to_z-of_z), grind (arith, ints, to_z-of_z), grind (arith, ints, to_z-of_z)), λ p. grind (arith, ints, to_z-of_z))
