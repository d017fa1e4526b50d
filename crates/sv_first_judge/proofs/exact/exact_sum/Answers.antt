use Rattle.std.proofs.Common.{◌+◌, ◌<◌, to_z, of_z, arith}
use Rattle.std.specs.Int.{w128}
use Rattle.std.specs.Int.RustNames.{unsigned_abs}
use Rattle.std.proofs.lemmas.Int.{ints}
use Rattle.sv_first_judge.specs.Weights.{weight_limit}
use Rattle.sv_first_judge.proofs.NumberLemmas.{fits_sum}
use Rattle.sv_first_judge.proofs.exact.exact_sum.Goals as goal

pub unwrap-requires : goal.unwrap-requires
unwrap-requires c =
    let a = to_z w128 (of_z w128 c.args.a) in
    let b = to_z w128 (of_z w128 c.args.b) in
    let small : unsigned_abs a + unsigned_abs b < weight_limit = omega (arith, ints) in
    c.add.ensures.exact.1 (fits_sum a b small)
