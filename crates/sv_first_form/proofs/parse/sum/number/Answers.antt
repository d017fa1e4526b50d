use Rattle.std.proofs.Common.{◌∙◌, sym}
use Rattle.sv_first_form.proofs.Leaves.{number_first}
use Rattle.sv_first_form.proofs.parse.sum.number.Goals as goal

pub returns-in-Some : goal.returns-in-Some
returns-in-Some c =
    let written = c.in-Some.ensures.written in
    number_first (sym c.bytes.ensures ∙ written.0) written.1 c.in_ok-text.ensures
