use Rattle.std.proofs.Common.{refl, ap, ◌∙◌}
use Rattle.sv_ast.proofs.ExprLaws.{power_is}
use Rattle.sv_ast.specs.ExprTrees.{post_tree, power_tree}
use Rattle.sv_ast.specs.Trees.{extent}
use Rattle.sv_grammar.specs.Grammar.{node, pair}
use Rattle.sv_read.proofs.Exits.{left_by}
use Rattle.sv_ast.specs.Syntax as s
use Rattle.sv_read.proofs.Reading.{gives_as}
use Rattle.sv_parse_expr.proofs.operators.power_rule.Goals as goal

pub placed-requires : goal.placed-requires
placed-requires γ c = c.requires

pub returns-in_err-base : goal.returns-in_err-base
returns-in_err-base γ c = left_by _ _ _ _ _ _ c.from_residual.ensures (c.in_err-base.ensures s.power refl)

pub returns : goal.returns
returns γ c = gives_as (power_is _ _ _ _ ∙ ap (λ t. node (extent c.in_ok-base.span c.in_ok-base.place) (pair (post_tree c.in_ok-base.base) t)) (c.behind.ensures power_tree)) (c.in_ok-base.ensures s.power refl)
