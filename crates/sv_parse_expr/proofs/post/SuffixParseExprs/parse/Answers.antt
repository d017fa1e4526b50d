use Rattle.std.proofs.Common.{refl}
use Rattle.sv_ast.proofs.ExprLaws.{suffix_is}
use Rattle.sv_read.proofs.Exits.{left_by}
use Rattle.sv_ast.specs.Syntax as s
use Rattle.sv_read.proofs.Reading.{gives_as}
use Rattle.sv_parse_expr.proofs.post.SuffixParseExprs.parse.Goals as goal

pub placed-requires : goal.placed-requires
placed-requires γ c = c.requires

pub returns-in_err-kind : goal.returns-in_err-kind
returns-in_err-kind γ c = left_by _ _ _ _ _ _ c.from_residual.ensures (c.in_err-kind.ensures s.suffix refl)

pub returns : goal.returns
returns γ c = gives_as (suffix_is _ _ _) (c.in_ok-kind.ensures s.suffix refl)
