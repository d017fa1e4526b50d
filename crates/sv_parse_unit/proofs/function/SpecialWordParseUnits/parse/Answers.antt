use Rattle.sv_read.proofs.Exits.{left_by}
use Rattle.sv_parse_unit.proofs.function.SpecialWordParseUnits.parse.Goals as goal

pub returns-in_err-text : goal.returns-in_err-text
returns-in_err-text c = left_by _ _ _ _ _ _ c.from_residual.ensures c.in_err-text.ensures

pub returns : goal.returns
returns c = c.in_ok-text.ensures
