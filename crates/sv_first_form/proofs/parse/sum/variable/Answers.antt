use Rattle.std.proofs.Common.{◌≡◌, Some, slice_get}
use Rattle.sv_first_form.proofs.Leaves.{variable_first}
use Rattle.sv_first_form.proofs.parse.sum.variable.Goals as goal

pub returns-in-Some : goal.returns-in-Some
returns-in-Some c =
    let found = c.in-Some.ensures.found in
    let at : slice_get c.args.names.now c.position.result ≡ Some c.in_ok-text.text = cc found in
    variable_first c.args.names.now c.requires at c.in_ok-text.ensures
