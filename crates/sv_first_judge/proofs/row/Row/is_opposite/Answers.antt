use Rattle.std.proofs.Common.{◌≡◌, pos, ◌+ℤ◌, FitsSigned, rules}
use Rattle.std.specs.Int.{w128}
use Rattle.std.proofs.lemmas.Int.{ints}
use Rattle.sv_first_judge.proofs.RowLemmas.{opposite_rows, within_opposite, within_opposite_turned}
use Rattle.sv_first_judge.proofs.row.Row.is_opposite.Goals as goal

pub returns-then-cancels : goal.returns-then-cancels
returns-then-cancels c =
    let row = c.args.self.now in
    let other = c.args.other.now in
    let fits : FitsSigned w128 row.constant = search rules in
    let other_fits : FitsSigned w128 other.constant = search rules in
    let constant : row.constant +ℤ other.constant ≡ pos 0 = search (rules, ints) in (
      λ t. let h = c.has_opposite_columns.ensures.0 t in opposite_rows row other constant h.0 h.1,
      λ h. c.has_opposite_columns.ensures.1 (within_opposite row other h, within_opposite_turned row other h),
    )
