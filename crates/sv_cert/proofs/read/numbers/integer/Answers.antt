use Rattle.std.proofs.Common.{◌∙◌}
use Rattle.sv_cert.proofs.Readers.{integer_minus, integer_other, integer_empty}
use Rattle.sv_cert.proofs.read.numbers.integer.Goals as goal
use Rattle.sv_cert.proofs.read.numbers.integer.Goals.{in_default-via-in-Some+else-first-eq45, in_default-via-in_default}

pub returns-in-Some : goal.returns-in-Some
returns-in-Some c =
    c.negative.ensures ∙ integer_minus c.args.word.now c.in-Some.digits.now c.in-Some.first.now c.in-Some.ensures.cases.0 c.if-first-eq45.true

pub returns-in_default : goal.returns-in_default
returns-in_default c =
    c.positive.ensures ∙ elim c.in_default.branch [
      | in_default-via-in-Some+else-first-eq45 w ↦ integer_other c.args.word.now w.in-Some.digits.now w.in-Some.first.now w.in-Some.ensures.cases.0 w.if-first-eq45.false
      | in_default-via-in_default w ↦ integer_empty c.args.word.now w.in_default.ensures.cases
    ]
