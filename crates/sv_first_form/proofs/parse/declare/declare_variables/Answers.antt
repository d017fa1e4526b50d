use Rattle.std.proofs.lemmas.Result.{err_from_is_err_and}
use Rattle.sv_first_form.proofs.Names.{fails_at}
use Rattle.sv_first_form.proofs.parse.declare.declare_variables.Goals as goal

pub returns-in_err-declare : goal.returns-in_err-declare
returns-in_err-declare c =
    let fault =
    fails_at c.args.names.now c.loop-variable.names c.args.variables.now c.loop-variable.variable-index c.variable-item.result c.bytes.result.now c.loop-variable.invariant.0
    c.loop-variable-test.true c.variable-item.is c.bytes.ensures c.in_err-declare.ensures in
    let e = err_from_is_err_and c.from_residual.result c.from_residual.ensures.1 in
    rw (e.1, e.2) fault
