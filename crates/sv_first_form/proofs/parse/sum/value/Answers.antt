use Rattle.std.proofs.Common.{arith}
use Rattle.sv_first_form.proofs.SumParts.{side_value_reads, number_value_first}
use Rattle.sv_first_form.proofs.parse.sum.value.Goals as goal

pub returns-then-not-sees_kind : goal.returns-then-not-sees_kind
returns-then-not-sees_kind c = side_value_reads _ c.side.result _ (λ begins. let seen = c.sees_kind.ensures.1 begins in cc) c.side.ensures

pub returns : goal.returns
returns c =
    rw (c.in_ok-sum.ensures, c.new.ensures) (number_value_first _ (c.sees_kind.ensures.0 (grind arith)) c.in_ok-number.ensures)
