use Rattle.std.proofs.lemmas.Bool.{iff_false}
use Rattle.sv_first_form.proofs.SumParts.{variable_item_first, number_item_first}
use Rattle.sv_first_form.proofs.parse.sum.item.Goals as goal

pub returns-in_ok-variable : goal.returns-in_ok-variable
returns-in_ok-variable c = variable_item_first _ (c.sees_kind.ensures.0 c.if-sees_kind.true) c.in_ok-variable.ensures

pub returns-in_ok-number : goal.returns-in_ok-number
returns-in_ok-number c = number_item_first _ (iff_false c.sees_kind.ensures c.if-sees_kind.false) c.in_ok-number.ensures
