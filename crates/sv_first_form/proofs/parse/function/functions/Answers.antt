use Rattle.std.proofs.lemmas.Bool.{iff_false}
use Rattle.std.proofs.lemmas.Result.{err_from_is_err_and}
use Rattle.sv_first_form.proofs.Repeats.{goes, ends, fails, smaller}
use Rattle.sv_first_form.proofs.WholeParts.{function_goes_on}
use Rattle.sv_first_form.proofs.parse.function.functions.Goals as goal

pub returns-in_err-function : goal.returns-in_err-function
returns-in_err-function c =
    let fault = fails (function_goes_on _) c.functions.invariant (λ stops. stops (c.sees.ensures.0 c.functions-test.true)) c.in_err-function.ensures in
    let e = err_from_is_err_and c.from_residual.result c.from_residual.ensures.1 in
    rw (e.1, e.2) fault

pub functions-smaller : goal.functions-smaller
functions-smaller c = smaller (function_goes_on _) c.in_ok-function.ensures

pub functions-preserved : goal.functions-preserved
functions-preserved c = rw c.in_ok-push.ensures.ok (goes (function_goes_on _) c.functions.invariant (λ stops. stops (c.sees.ensures.0 c.functions-test.true)) c.in_ok-function.ensures)

pub returns : goal.returns
returns c = ends (function_goes_on _) c.functions.invariant (iff_false c.sees.ensures c.functions-test.false)
