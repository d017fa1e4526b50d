use Rattle.sv_read.proofs.Exits.{left_by}
use Rattle.sv_parse_unit.proofs.function.ModifierWordParseUnits.parse.Goals as goal

pub parse-requires : goal.parse-requires
parse-requires c = c.requires

pub returns-in_err-parse : goal.returns-in_err-parse
returns-in_err-parse c = left_by _ _ _ _ _ _ c.from_residual.ensures c.in_err-parse.ensures

pub returns-in-First : goal.returns-in-First
returns-in-First c = rw c.in-First.is at c.in_ok-parse.ensures

pub returns-in-Second : goal.returns-in-Second
returns-in-Second c = rw c.in-Second.is at c.in_ok-parse.ensures
