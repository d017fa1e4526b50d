use Rattle.std.proofs.Common.{refl}
use Rattle.sv_ast.proofs.ExprLaws.{type_is}
use Rattle.sv_read.proofs.Exits.{left_by}
use Rattle.sv_ast.specs.Syntax as s
use Rattle.sv_read.proofs.Reading.{gives_as}
use Rattle.sv_parse_expr.proofs.types.type_rule.Goals as goal

pub placed-requires : goal.placed-requires
placed-requires γ c = c.requires

pub returns-in_err-plain : goal.returns-in_err-plain
returns-in_err-plain γ c = left_by _ _ _ _ _ _ c.from_residual.ensures (c.in_err-plain.ensures s.type refl)

pub returns : goal.returns
returns γ c = gives_as (type_is _ _ _ _) (c.in_ok-plain.ensures s.type refl)
