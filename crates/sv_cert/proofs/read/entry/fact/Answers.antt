use Rattle.std.proofs.Common.{refl}
use Rattle.std.proofs.lemmas.Result.{err_from_is_err_and}
use Rattle.sv_cert.specs.LogSteps.{itself}
use Rattle.sv_cert.specs.PlainLogs.{plain_entry}
use Rattle.sv_cert.proofs.Readers.{goes, goes_wrong, made, made_wrong, stops}
use Rattle.sv_cert.proofs.read.entry.fact.Goals as goal

pub returns-in_err-rule : goal.returns-in_err-rule
returns-in_err-rule c =
    let p = err_from_is_err_and c.from_residual.result c.from_residual.ensures.1 in
    rw (p.1, p.2) (stops plain_entry _ c.in_err-rule.ensures)

pub returns-in_err-sign : goal.returns-in_err-sign
returns-in_err-sign c =
    let p = err_from_is_err_and c.from_residual-in_err-sign.result c.from_residual-in_err-sign.ensures.1 in
    rw (p.1, p.2) (goes_wrong plain_entry _ _ c.in_ok-rule.ensures (stops plain_entry _ c.in_err-sign.ensures))

pub returns-in_err-n : goal.returns-in_err-n
returns-in_err-n c =
    let p = err_from_is_err_and c.from_residual-in_err-n.result c.from_residual-in_err-n.ensures.1 in
    rw (p.1, p.2) (goes_wrong plain_entry _ _ c.in_ok-rule.ensures (goes_wrong plain_entry _ _ c.in_ok-sign.ensures (stops plain_entry _ c.in_err-n.ensures)))

pub returns-in_err-from : goal.returns-in_err-from
returns-in_err-from c =
    let p = err_from_is_err_and c.from_residual-in_err-from.result c.from_residual-in_err-from.ensures.1 in
    rw (p.1, p.2) (goes_wrong plain_entry _ _ c.in_ok-rule.ensures (goes_wrong plain_entry _ _ c.in_ok-sign.ensures (goes_wrong plain_entry _ _ c.in_ok-n.ensures (made_wrong itself plain_entry _ _ _ c.in_err-from.ensures))))

pub returns : goal.returns
returns c = goes _ c.in_ok-rule.ensures (goes _ c.in_ok-sign.ensures (goes _ c.in_ok-n.ensures (made _ c.in_ok-from.ensures refl)))
