use Rattle.std.proofs.Common.{arith}
use Rattle.std.proofs.lemmas.Result.{err_from_is_err_and}
use Rattle.sv_first_form.proofs.ActParts.{act_goes_on}
use Rattle.sv_first_form.proofs.Repeats.{goes, ends, fails, smaller}
use Rattle.sv_first_form.proofs.Sequences.{at_most_first, at_most_over, at_most_fails}
use Rattle.sv_first_form.proofs.parse.act.acts.Goals as goal

pub returns-in_err-act : goal.returns-in_err-act
returns-in_err-act c =
    let fault = at_most_fails 16 (fails (act_goes_on _) c.acts.invariant (λ ended. let seen = c.sees.ensures.1 ended in cc) c.in_err-act.ensures) in
    let e = err_from_is_err_and c.from_residual.result c.from_residual.ensures.1 in
    rw (e.1, e.2) fault

pub acts-smaller : goal.acts-smaller
acts-smaller c = smaller (act_goes_on _) c.in_ok-act.ensures

pub acts-preserved : goal.acts-preserved
acts-preserved c =
    rw c.in_ok-push.ensures.ok (goes (act_goes_on _) c.acts.invariant (λ ended. let seen = c.sees.ensures.1 ended in cc) c.in_ok-act.ensures)

pub returns-then-len-gt16 : goal.returns-then-len-gt16
returns-then-len-gt16 c = at_most_over 16 (omega arith) (ends (act_goes_on _) c.acts.invariant (c.sees.ensures.0 (grind arith)))

pub returns : goal.returns
returns c = at_most_first 16 (omega arith) (ends (act_goes_on _) c.acts.invariant (c.sees.ensures.0 (grind arith)))
