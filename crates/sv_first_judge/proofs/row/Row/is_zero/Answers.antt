use Rattle.std.proofs.Common.{◌≡◌, pos, FitsSigned, arith, rules}
use Rattle.std.specs.Int.{w128}
use Rattle.std.proofs.lemmas.Int.{ints}
use Rattle.sv_first_judge.proofs.RowLemmas.{zero_row, zeros_of_zero}
use Rattle.sv_first_judge.proofs.row.Row.is_zero.Goals as goal

pub returns-then-self-eq0 : goal.returns-then-self-eq0
returns-then-self-eq0 c =
    let row = c.args.self.now in
    let fits : FitsSigned w128 row.constant = search rules in
    let constant : row.constant ≡ pos 0 = omega (arith, ints) in
    (λ t. zero_row row constant (c.has_zeros.ensures.0 t), λ h. c.has_zeros.ensures.1 (zeros_of_zero row h))
