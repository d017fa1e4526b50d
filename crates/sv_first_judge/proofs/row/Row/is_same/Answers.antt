use Rattle.std.proofs.Common.{◌≡◌, FitsSigned, arith, rules}
use Rattle.std.specs.Int.{w128}
use Rattle.std.proofs.lemmas.Int.{ints}
use Rattle.sv_first_judge.proofs.RowLemmas.{same_rows, within_same, within_same_turned}
use Rattle.sv_first_judge.proofs.row.Row.is_same.Goals as goal

pub returns-then-self-other : goal.returns-then-self-other
returns-then-self-other c =
    let row = c.args.self.now in
    let other = c.args.other.now in
    let fits : FitsSigned w128 row.constant = search rules in
    let other_fits : FitsSigned w128 other.constant = search rules in
    let constant : row.constant ≡ other.constant = omega (arith, ints) in (
      λ t. let h = c.has_same_columns.ensures.0 t in same_rows row other constant h.0 h.1,
      λ h. c.has_same_columns.ensures.1 (within_same row other h, within_same_turned row other h),
    )
