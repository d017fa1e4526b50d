use Rattle.std.proofs.Common.{refl}
use Rattle.sv_ast.specs.Syntax as g
use Rattle.sv_read.proofs.Exits.{left_by}
use Rattle.sv_parse_unit.proofs.function.SpecialParseUnits.parse.Goals as goal

pub placed-requires : goal.placed-requires
placed-requires c = c.requires

pub returns-in_err-notes : goal.returns-in_err-notes
returns-in_err-notes c = left_by _ _ _ _ _ _ c.from_residual.ensures (c.in_err-notes.ensures g.special refl)

pub returns : goal.returns
returns c = c.in_ok-notes.ensures g.special refl
