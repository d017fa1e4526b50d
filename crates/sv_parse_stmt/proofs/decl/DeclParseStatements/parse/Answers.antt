use Rattle.std.proofs.Common.{refl, ap}
use Rattle.sv_grammar.specs.Grammar.{name, node}
use Rattle.sv_ast.specs.Trees.{extent, optional, ◌⊗◌}
use Rattle.sv_ast.specs.ExprTrees.{expr_tree, type_tree}
use Rattle.sv_ast.specs.SimpleTrees.{location_tree}
use Rattle.sv_read.proofs.Exits.{left_by}
use Rattle.sv_ast.specs.Syntax as s
use Rattle.sv_read.proofs.Reading.{gives_as}
use Rattle.sv_parse_stmt.proofs.decl.DeclParseStatements.parse.Goals as goal

pub placed-requires : goal.placed-requires
placed-requires γ c = c.requires

pub returns-in_err-of_type : goal.returns-in_err-of_type
returns-in_err-of_type γ c = left_by _ _ _ _ _ _ c.from_residual.ensures (c.in_err-of_type.ensures s.decl refl)

pub returns : goal.returns
returns γ c = gives_as (ap (λ t. node (extent c.in_ok-of_type.span c.in_ok-of_type.place) (type_tree c.in_ok-of_type.of_type ⊗ optional location_tree c.in_ok-of_type.location ⊗ name c.in_ok-of_type.name ⊗ t)) (c.behind.ensures expr_tree)) (c.in_ok-of_type.ensures s.decl refl)
