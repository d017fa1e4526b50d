use Rattle.std.proofs.Common.{◌≡◌, refl, sym, subst, Some}
use mir.Syntax.{w128}
use mir.Val.{to_z, of_z}
use Rattle.std.proofs.lemmas.Result.{err_from_is_err_and}
use Rattle.sv_log.specs.LogEntries.{Combine}
use Rattle.sv_cert.specs.LogReading.{combine_in}
use Rattle.sv_cert.specs.PlainLogs.{plain_entry, plain_row}
use Rattle.sv_cert.proofs.Readers.{goes, goes_wrong, made, made_wrong, stops, taken_fits}
use Rattle.sv_cert.proofs.read.entry.combination.Goals as goal

pub returns-in_err-m : goal.returns-in_err-m
returns-in_err-m c =
    let p = err_from_is_err_and c.from_residual.result c.from_residual.ensures.1 in
    rw (p.1, p.2) (stops plain_entry _ c.in_err-m.ensures)

pub returns-in_err-p : goal.returns-in_err-p
returns-in_err-p c =
    let p = err_from_is_err_and c.from_residual-in_err-p.result c.from_residual-in_err-p.ensures.1 in
    rw (p.1, p.2) (goes_wrong plain_entry _ _ c.in_ok-m.ensures (stops plain_entry _ c.in_err-p.ensures))

pub returns-in_err-n : goal.returns-in_err-n
returns-in_err-n c =
    let p = err_from_is_err_and c.from_residual-in_err-n.result c.from_residual-in_err-n.ensures.1 in
    rw (p.1, p.2) (goes_wrong plain_entry _ _ c.in_ok-m.ensures (goes_wrong plain_entry _ _ c.in_ok-p.ensures (stops plain_entry _ c.in_err-n.ensures)))

pub returns-in_err-q : goal.returns-in_err-q
returns-in_err-q c =
    let p = err_from_is_err_and c.from_residual-in_err-q.result c.from_residual-in_err-q.ensures.1 in
    rw (p.1, p.2) (goes_wrong plain_entry _ _ c.in_ok-m.ensures (goes_wrong plain_entry _ _ c.in_ok-p.ensures (goes_wrong plain_entry _ _ c.in_ok-n.ensures (stops plain_entry _ c.in_err-q.ensures))))

pub returns-in_err-row : goal.returns-in_err-row
returns-in_err-row c =
    let p = err_from_is_err_and c.from_residual-in_err-row.result c.from_residual-in_err-row.ensures.1 in
    rw (p.1, p.2) (goes_wrong plain_entry _ _ c.in_ok-m.ensures (goes_wrong plain_entry _ _ c.in_ok-p.ensures (goes_wrong plain_entry _ _ c.in_ok-n.ensures (goes_wrong plain_entry _ _ c.in_ok-q.ensures (made_wrong plain_row plain_entry _ _ _ c.in_err-row.ensures)))))

pub returns : goal.returns
returns c =
    subst (λ m. combine_in c.args.words.now ≡ Some (Combine m c.in_ok-p.p (to_z w128 (of_z w128 c.in_ok-n.n)) c.in_ok-q.q (plain_row c.in_ok-row.row))) (sym (taken_fits _ _ _ c.in_ok-m.ensures))
    (subst (λ n. combine_in c.args.words.now ≡ Some (Combine c.in_ok-m.m c.in_ok-p.p n c.in_ok-q.q (plain_row c.in_ok-row.row))) (sym (taken_fits _ _ _ c.in_ok-n.ensures))
    (goes _ c.in_ok-m.ensures (goes _ c.in_ok-p.ensures (goes _ c.in_ok-n.ensures (goes _ c.in_ok-q.ensures (made _ c.in_ok-row.ensures refl))))))
