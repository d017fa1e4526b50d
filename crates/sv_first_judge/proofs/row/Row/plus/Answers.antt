use Rattle.std.proofs.Common.{◌<◌, length, ap, pos, arith}
use Rattle.sv_first_judge.specs.declared.row.Column.{Column}
use Rattle.sv_first_judge.proofs.Added.{added_more}
use Rattle.sv_first_judge.proofs.row.Row.plus.Goals as goal

pub loop-c-preserved : goal.loop-c-preserved
loop-c-preserved c =
    let columns = c.args.other.now.columns in
    let none : Column = record { variable = 0; number = pos 0 } in
    let inside : c.loop-c.c-index < length columns = omega (arith, ap length c.as_slice-c-items.ensures) in
    let one = rw c.as_slice-c-items.ensures at c.in_ok-add_column.ensures in
    added_more c.args.self c.loop-c.self c.add_column.new.self columns c.loop-c.c-index none inside c.loop-c.invariant one
