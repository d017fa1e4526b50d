use Rattle.std.proofs.Common.{◌≡◌, refl, sym, subst, Some}
use Rattle.std.proofs.lemmas.Result.{err_from_is_err_and}
use Rattle.sv_log.specs.LogRows.{row}
use Rattle.sv_cert.specs.LogReading.{row_in}
use Rattle.sv_cert.specs.LogSteps.{monomials_of}
use Rattle.sv_cert.specs.PlainLogs.{plain_row}
use Rattle.sv_cert.proofs.Readers.{goes, goes_wrong, made, made_wrong, stops, taken_fits}
use Rattle.sv_cert.proofs.read.entry.row.Goals as goal

pub returns-in_err-constant : goal.returns-in_err-constant
returns-in_err-constant c =
    let p = err_from_is_err_and c.from_residual.result c.from_residual.ensures.1 in
    rw (p.1, p.2) (stops plain_row _ c.in_err-constant.ensures)

pub returns-in_err-parts : goal.returns-in_err-parts
returns-in_err-parts c =
    let p = err_from_is_err_and c.from_residual-in_err-parts.result c.from_residual-in_err-parts.ensures.1 in
    rw (p.1, p.2) (goes_wrong plain_row _ _ c.in_ok-constant.ensures (made_wrong monomials_of plain_row _ _ _ c.in_err-parts.ensures))

pub returns : goal.returns
returns c =
    subst (λ k. row_in c.args.words.now ≡ Some (row k (monomials_of c.in_ok-parts.parts))) (sym (taken_fits _ _ _ c.in_ok-constant.ensures))
    (goes _ c.in_ok-constant.ensures (made _ c.in_ok-parts.ensures refl))
