use Rattle.std.proofs.Common.{refl}
use Rattle.sv_ast.specs.Syntax as g
use Rattle.sv_read.proofs.Exits.{left_by}
use Rattle.sv_parse_unit.proofs.contract.BasesParseUnits.parse.Goals as goal

pub placed-requires : goal.placed-requires
placed-requires c = c.requires

pub returns-in_err-bases : goal.returns-in_err-bases
returns-in_err-bases c = left_by _ _ _ _ _ _ c.from_residual.ensures (c.in_err-bases.ensures g.bases refl)

pub returns : goal.returns
returns c = c.in_ok-bases.ensures g.bases refl
