use Rattle.std.proofs.Common.{arith}
use Rattle.std.proofs.lemmas.Result.{err_from_is_err_and}
use Rattle.sv_first_form.proofs.Repeats.{goes, ends, fails, smaller}
use Rattle.sv_first_form.proofs.WholeParts.{note_goes_on}
use Rattle.sv_first_form.proofs.parse.note.notes.Goals as goal

pub returns-in_err-note : goal.returns-in_err-note
returns-in_err-note c =
    let fault = fails (note_goes_on _) c.notes.invariant (λ stops. let seen = c.is_at_end.ensures.1 stops in cc) c.in_err-note.ensures in
    let e = err_from_is_err_and c.from_residual.result c.from_residual.ensures.1 in
    rw (e.1, e.2) fault

pub notes-smaller : goal.notes-smaller
notes-smaller c = smaller (note_goes_on _) c.in_ok-note.ensures

pub notes-preserved : goal.notes-preserved
notes-preserved c = rw c.in_ok-push.ensures.ok (goes (note_goes_on _) c.notes.invariant (λ stops. let seen = c.is_at_end.ensures.1 stops in cc) c.in_ok-note.ensures)

pub returns : goal.returns
returns c = let ended = c.is_at_end.ensures.0 (grind arith) in rw ended at (ends (note_goes_on _) c.notes.invariant ended)
