use Rattle.std.proofs.Common.{refl}
use Rattle.sv_read.proofs.Exits.{left_by}
use Rattle.sv_ast.specs.Syntax as s
use Rattle.sv_parse_stmt.proofs.returns.ReturnParseStatements.parse.Goals as goal

pub placed-requires : goal.placed-requires
placed-requires γ c = c.requires

pub returns-in_err-values : goal.returns-in_err-values
returns-in_err-values γ c = left_by _ _ _ _ _ _ c.from_residual.ensures (c.in_err-values.ensures s.return refl)

pub returns : goal.returns
returns γ c = c.in_ok-values.ensures s.return refl
