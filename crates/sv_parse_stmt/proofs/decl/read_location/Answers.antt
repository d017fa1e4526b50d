use Rattle.std.proofs.Common.{refl, arith}
use Rattle.sv_read.proofs.Exits.{left_by}
use Rattle.sv_ast.specs.Syntax as s
use Rattle.sv_parse_stmt.proofs.decl.read_location.Goals as goal

pub placed-requires : goal.placed-requires
placed-requires c = record { nests = tt; behind = omega arith }

pub returns-in_err-kind : goal.returns-in_err-kind
returns-in_err-kind c = left_by _ _ _ _ _ _ c.from_residual.ensures (c.in_err-kind.ensures s.location refl)

pub returns : goal.returns
returns c = c.in_ok-kind.ensures s.location refl
