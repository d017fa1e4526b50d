use Rattle.std.proofs.lemmas.Bool.{iff_false}
use Rattle.std.proofs.lemmas.Result.{err_from_is_err_and}
use Rattle.sv_first_form.proofs.Repeats.{goes, ends, fails, smaller}
use Rattle.sv_first_form.proofs.WholeParts.{declaration_goes_on}
use Rattle.sv_first_form.proofs.parse.header.declarations.Goals as goal

pub returns-in_err-variable : goal.returns-in_err-variable
returns-in_err-variable c =
    let fault = fails declaration_goes_on c.variables.invariant (λ stops. stops (c.sees.ensures.0 c.variables-test.true)) c.in_err-variable.ensures in
    let e = err_from_is_err_and c.from_residual.result c.from_residual.ensures.1 in
    rw (e.1, e.2) fault

pub variables-smaller : goal.variables-smaller
variables-smaller c = smaller declaration_goes_on c.in_ok-variable.ensures

pub variables-preserved : goal.variables-preserved
variables-preserved c = rw c.in_ok-push.ensures.ok (goes declaration_goes_on c.variables.invariant (λ stops. stops (c.sees.ensures.0 c.variables-test.true)) c.in_ok-variable.ensures)

pub returns : goal.returns
returns c = ends declaration_goes_on c.variables.invariant (iff_false c.sees.ensures c.variables-test.false)
