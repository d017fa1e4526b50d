use Rattle.std.proofs.Common.{◌≡◌, refl, sym, subst, Some}
use Rattle.std.proofs.lemmas.Result.{err_from_is_err_and}
use Rattle.sv_log.specs.LogEntries.{Divide}
use Rattle.sv_cert.specs.LogReading.{divide_in}
use Rattle.sv_cert.specs.PlainLogs.{plain_entry, plain_row}
use Rattle.sv_cert.proofs.Readers.{goes, goes_wrong, made, made_wrong, stops, taken_fits}
use Rattle.sv_cert.proofs.read.entry.division.Goals as goal

pub returns-in_err-d : goal.returns-in_err-d
returns-in_err-d c =
    let p = err_from_is_err_and c.from_residual.result c.from_residual.ensures.1 in
    rw (p.1, p.2) (stops plain_entry _ c.in_err-d.ensures)

pub returns-in_err-p : goal.returns-in_err-p
returns-in_err-p c =
    let p = err_from_is_err_and c.from_residual-in_err-p.result c.from_residual-in_err-p.ensures.1 in
    rw (p.1, p.2) (goes_wrong plain_entry _ _ c.in_ok-d.ensures (stops plain_entry _ c.in_err-p.ensures))

pub returns-in_err-row : goal.returns-in_err-row
returns-in_err-row c =
    let p = err_from_is_err_and c.from_residual-in_err-row.result c.from_residual-in_err-row.ensures.1 in
    rw (p.1, p.2) (goes_wrong plain_entry _ _ c.in_ok-d.ensures (goes_wrong plain_entry _ _ c.in_ok-p.ensures (made_wrong plain_row plain_entry _ _ _ c.in_err-row.ensures)))

pub returns : goal.returns
returns c =
    subst (λ d. divide_in c.args.words.now ≡ Some (Divide d c.in_ok-p.p (plain_row c.in_ok-row.row))) (sym (taken_fits _ _ _ c.in_ok-d.ensures))
    (goes _ c.in_ok-d.ensures (goes _ c.in_ok-p.ensures (made _ c.in_ok-row.ensures refl)))
