use Rattle.std.proofs.Common.{◌^◌}
use Rattle.sv_literal.proofs.Worths.{wide_mantissa, wide_exponent}
use Rattle.sv_literal.proofs.decimal_value.Goals as goal

pub returns-in_default : goal.returns-in_default
returns-in_default c = wide_mantissa c.before_exponent-at.result (2 ^ 128) c.args.text.now c.args.unit c.before_exponent-at.ensures.count c.in_default.ensures

pub returns-in_default-exponent_value : goal.returns-in_default-exponent_value
returns-in_default-exponent_value c = wide_exponent c.before_exponent-at.result c.in-Some.whole (2 ^ 128) c.args.text.now c.args.unit c.before_exponent-at.ensures.count c.in-Some.ensures.1 c.if-whole-eq0.false c.in_default-exponent_value.ensures
