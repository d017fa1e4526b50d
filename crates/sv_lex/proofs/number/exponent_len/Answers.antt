-- An `e`, and the digits behind it.
use Rattle.std.proofs.Common.{◌<◌, Some, codes, arith}
use Rattle.std.proofs.lemmas.Bool.Decides.{Decides-eqb}
use Rattle.std.proofs.lemmas.Slice.Eq.{strip_prefix_is}
use Rattle.sv_lex.proofs.NumberLemmas.{exponent_of_digits}
use Rattle.sv_lex.proofs.number.exponent_len.Goals as goal

pub returns-in_default-min : goal.returns-in_default-min
returns-in_default-min c =
    let run = c.run_len.ensures in
    let some : 0 < c.min.result = omega arith in
    exponent_of_digits c.args.text.now c.in-Some.digits.now c.run_len.result c.min.result
    (strip_prefix_is Decides-eqb c.args.text.now (codes "e") (Some c.in-Some.digits) c.in-Some.ensures.cases) run.within run.run run.stop c.min.ensures some
