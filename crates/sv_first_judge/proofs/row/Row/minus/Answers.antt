use Rattle.std.proofs.Common.{◌≡◌, ◌<◌, length, get_or, ap, pos, neg_ℤ, refl, arith, rules, FitsSigned}
use Rattle.std.specs.Int.{w128}
use Rattle.std.proofs.lemmas.Int.{ints}
use Rattle.sv_first_judge.specs.declared.row.Column.{Column}
use Rattle.sv_first_judge.proofs.Added.{subtracted_more}
use Rattle.sv_first_judge.proofs.row.Row.minus.Goals as goal

pub loop-c-preserved : goal.loop-c-preserved
loop-c-preserved c =
    let columns = c.args.other.now.columns in
    let none : Column = record { variable = 0; number = pos 0 } in
    let inside : c.loop-c.c-index < length columns = omega (arith, ap length c.as_slice-c-items.ensures) in
    let fits : FitsSigned w128 (get_or columns c.loop-c.c-index none).number = search rules in
    let negated_fits : FitsSigned w128 c.negated-number.result = search rules in
    let negation = rw c.as_slice-c-items.ensures at c.negated-number.ensures in
    let number : c.negated-number.result ≡ neg_ℤ (get_or columns c.loop-c.c-index none).number = omega (arith, ints) in
    let one = rw c.as_slice-c-items.ensures at c.in_ok-add_column.ensures in
    subtracted_more c.args.self c.loop-c.self c.add_column.new.self columns c.loop-c.c-index none _ inside refl (omega (arith, ints)) c.loop-c.invariant one
