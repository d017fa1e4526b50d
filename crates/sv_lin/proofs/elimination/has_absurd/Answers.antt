use Rattle.std.proofs.Common.{refl, arith, subst, sym}
use Rattle.sv_log.specs.Logs.{Bound, IsAbsurd}
use Rattle.sv_cert.specs.PlainLogs.{plain_row}
use Rattle.sv_lin.proofs.Forces.{among, past, none_left}
use Rattle.sv_lin.proofs.elimination.has_absurd.Goals as goal

pub loop-row-init : goal.loop-row-init
loop-row-init c r a h = h

pub returns-then-is_absurd : goal.returns-then-is_absurd
returns-then-is_absurd c = (
  plain_row c.row-item.result,
  among plain_row c.args.rows.now c.loop-row.row-index c.row-item.result (plain_row c.row-item.result) (omega arith) c.row-item.is refl,
  c.if-is_absurd.ensures,
)

pub loop-row-preserved : goal.loop-row-preserved
loop-row-preserved c r a h =
    past plain_row c.args.rows.now c.loop-row.row-index c.row-item.result r (omega arith) c.row-item.is (λ e. c.if-is_absurd.ensures (subst (λ s. IsAbsurd (Bound s)) (sym e) a)) (c.loop-row.invariant r a h)

pub returns : goal.returns
returns c r h a = none_left plain_row c.args.rows.now c.loop-row.row-index r (omega arith) (c.loop-row.invariant r a h)
