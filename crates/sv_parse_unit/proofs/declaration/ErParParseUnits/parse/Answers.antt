use Rattle.std.proofs.Common.{refl}
use Rattle.sv_ast.specs.Syntax as g
use Rattle.sv_read.proofs.Exits.{left_by}
use Rattle.sv_parse_unit.proofs.declaration.ErParParseUnits.parse.Goals as goal

pub placed-requires : goal.placed-requires
placed-requires c = c.requires

pub returns-in_err-of_type : goal.returns-in_err-of_type
returns-in_err-of_type c = left_by _ _ _ _ _ _ c.from_residual.ensures (c.in_err-of_type.ensures g.er_par refl)

pub returns : goal.returns
returns c = c.in_ok-of_type.ensures g.er_par refl
