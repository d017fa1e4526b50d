use Rattle.std.proofs.Common.{arith, refl}
use Rattle.sv_ast.specs.Syntax as g
use Rattle.sv_read.proofs.Exits.{left_by}
use Rattle.sv_ast.specs.ExprTrees.{expr_tree}
use Rattle.sv_parse_unit.proofs.contract.VariableParseUnits.parse.Goals as goal

pub placed-requires : goal.placed-requires
placed-requires c = c.requires

pub returns-in_err-of_type : goal.returns-in_err-of_type
returns-in_err-of_type c = left_by _ _ _ _ _ _ c.from_residual.ensures (c.in_err-of_type.ensures g.variable refl)

pub behind-requires : goal.behind-requires
behind-requires c = omega arith

pub returns : goal.returns
returns c = rw (c.behind.ensures expr_tree) (c.in_ok-of_type.ensures g.variable refl)
