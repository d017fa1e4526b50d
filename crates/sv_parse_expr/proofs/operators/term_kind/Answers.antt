use Rattle.std.proofs.Common.{sym, ◌∙◌}
use Rattle.sv_ast.proofs.ExprLaws.{term_unary_is, term_power_is}
use Rattle.sv_read.proofs.Exits.{left_by}
use Rattle.sv_read.proofs.Reading.{gives_left, gives_right, fails_left, fails_right}
use Rattle.sv_parse_expr.proofs.operators.term_kind.Goals as goal

pub unary_rule-requires : goal.unary_rule-requires
unary_rule-requires g c = c.requires

pub power_rule-requires : goal.power_rule-requires
power_rule-requires g c = c.requires

pub returns-in_ok-unary_rule : goal.returns-in_ok-unary_rule
returns-in_ok-unary_rule g c = rw (term_unary_is c.in_ok-unary_rule.field-0) (gives_left (sym c.begins.ensures ∙ c.if-begins.true) c.in_ok-unary_rule.ensures)

pub returns-in_ok-power_rule : goal.returns-in_ok-power_rule
returns-in_ok-power_rule g c = rw (term_power_is c.in_ok-power_rule.field-0) (gives_right (sym c.begins.ensures ∙ c.if-begins.false) c.in_ok-power_rule.ensures)

pub returns-in_err-unary_rule : goal.returns-in_err-unary_rule
returns-in_err-unary_rule g c = left_by _ _ _ _ _ _ c.from_residual.ensures (fails_left (sym c.begins.ensures ∙ c.if-begins.true) c.in_err-unary_rule.ensures)

pub returns-in_err-power_rule : goal.returns-in_err-power_rule
returns-in_err-power_rule g c = left_by _ _ _ _ _ _ c.from_residual-in_err-power_rule.ensures (fails_right (sym c.begins.ensures ∙ c.if-begins.false) c.in_err-power_rule.ensures)
