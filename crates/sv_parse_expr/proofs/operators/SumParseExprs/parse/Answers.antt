use Rattle.std.proofs.Common.{refl}
use Rattle.sv_ast.proofs.ExprLaws.{sum_is}
use Rattle.sv_read.proofs.Exits.{left_by}
use Rattle.sv_ast.specs.Syntax as s
use Rattle.sv_read.proofs.Reading.{gives_as}
use Rattle.sv_parse_expr.proofs.operators.SumParseExprs.parse.Goals as goal

pub placed-requires : goal.placed-requires
placed-requires γ c = c.requires

pub returns-in_err-first : goal.returns-in_err-first
returns-in_err-first γ c = left_by _ _ _ _ _ _ c.from_residual.ensures (c.in_err-first.ensures s.sum refl)

pub returns : goal.returns
returns γ c = gives_as (sum_is _ _ _ _) (c.in_ok-first.ensures s.sum refl)
