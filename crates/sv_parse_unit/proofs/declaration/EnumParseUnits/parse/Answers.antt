use Rattle.std.proofs.Common.{refl}
use Rattle.sv_ast.specs.Syntax as g
use Rattle.sv_read.proofs.Exits.{left_by}
use Rattle.sv_parse_unit.proofs.declaration.EnumParseUnits.parse.Goals as goal

pub placed-requires : goal.placed-requires
placed-requires c = c.requires

pub returns-in_err-name : goal.returns-in_err-name
returns-in_err-name c = left_by _ _ _ _ _ _ c.from_residual.ensures (c.in_err-name.ensures g.enum refl)

pub returns : goal.returns
returns c = c.in_ok-name.ensures g.enum refl
