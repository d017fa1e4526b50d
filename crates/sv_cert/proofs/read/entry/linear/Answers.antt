use Rattle.std.proofs.Common.{refl}
use Rattle.std.proofs.lemmas.Result.{err_from_is_err_and}
use Rattle.sv_cert.specs.PlainLogs.{plain_entry, plain_row}
use Rattle.sv_cert.proofs.Readers.{goes, goes_wrong, made, made_wrong, stops}
use Rattle.sv_cert.proofs.read.entry.linear.Goals as goal

pub returns-in_err-p : goal.returns-in_err-p
returns-in_err-p c =
    let p = err_from_is_err_and c.from_residual.result c.from_residual.ensures.1 in
    rw (p.1, p.2) (stops plain_entry _ c.in_err-p.ensures)

pub returns-in_err-forward : goal.returns-in_err-forward
returns-in_err-forward c =
    let p = err_from_is_err_and c.from_residual-in_err-forward.result c.from_residual-in_err-forward.ensures.1 in
    rw (p.1, p.2) (goes_wrong plain_entry _ _ c.in_ok-p.ensures (stops plain_entry _ c.in_err-forward.ensures))

pub returns-in_err-row : goal.returns-in_err-row
returns-in_err-row c =
    let p = err_from_is_err_and c.from_residual-in_err-row.result c.from_residual-in_err-row.ensures.1 in
    rw (p.1, p.2) (goes_wrong plain_entry _ _ c.in_ok-p.ensures (goes_wrong plain_entry _ _ c.in_ok-forward.ensures (made_wrong plain_row plain_entry _ _ _ c.in_err-row.ensures)))

pub returns : goal.returns
returns c = goes _ c.in_ok-p.ensures (goes _ c.in_ok-forward.ensures (made _ c.in_ok-row.ensures refl))
