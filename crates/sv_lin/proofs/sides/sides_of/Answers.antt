use Rattle.sv_cert.specs.PlainLogs.{plain_row}
use Rattle.sv_lin.specs.UnderWay.{force}
use Rattle.sv_lin.proofs.Entering.{contains_get}
use Rattle.sv_lin.proofs.Gathering.{one_more_side}
use Rattle.sv_lin.proofs.sides.sides_of.Goals as goal

pub factor_at-requires : goal.factor_at-requires
factor_at-requires c = c.requires.1 (plain_row c.row.result.now) (contains_get (force c.args.rows.now c.args.work.now.made.items) c.loop-number.number (plain_row c.row.result.now) c.row.ensures)

pub loop-number-preserved : goal.loop-number-preserved
loop-number-preserved c =
    one_more_side (force c.args.rows.now c.args.work.now.made.items) c.requires.1 c.args.column c.loop-number.number (plain_row c.row.result.now) c.row.ensures
    c.loop-number.sides.uppers.items c.loop-number.sides.lowers.items c.add.new.self.uppers.items c.add.new.self.lowers.items
    c.factor_at.result c.factor_at.ensures c.in_ok-add.ensures c.loop-number.invariant
