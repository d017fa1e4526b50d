use Rattle.sv_plain.specs.ShownExprs.{expr_of}
use Rattle.sv_plain.proofs.Sizes.{size}
use Rattle.sv_form_rules.proofs.nodes.+is_literal.Given as goal

abbrev pub decreases-is_literal : goal.decreases-is_literal
decreases-is_literal l = size (expr_of l.e)
