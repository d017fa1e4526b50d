use Rattle.std.proofs.Common.{MatchBool, subst}
use Rattle.std.specs.List.{Contains}
use Rattle.sv_cert.specs.PlainLogs.{plain_row}
use Rattle.sv_lin.specs.UnderWay.{rows_of}
use Rattle.sv_lin.proofs.Forces.{holds_made}
use Rattle.sv_lin.proofs.work.Work.holds.Goals as goal

pub returns-else-is_given : goal.returns-else-is_given
returns-else-is_given c =
    holds_made c.args.rows.now c.args.self.now.made.items (plain_row c.args.row.now) c.is_made.result c.if-is_given.ensures
    (subst (λ ms. MatchBool c.is_made.result (Contains (rows_of ms) (plain_row c.args.row.now)) (Contains (rows_of ms) (plain_row c.args.row.now) → ⊥)) c.deref.ensures.value c.is_made.ensures)
