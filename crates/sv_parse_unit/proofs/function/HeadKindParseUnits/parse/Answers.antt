use Rattle.sv_read.proofs.Exits.{left_by}
use Rattle.sv_parse_unit.proofs.function.HeadKindParseUnits.parse.Goals as goal

pub parse-requires : goal.parse-requires
parse-requires c = c.requires

pub returns-in_err-parse : goal.returns-in_err-parse
returns-in_err-parse c = left_by _ _ _ _ _ _ c.from_residual.ensures c.in_err-parse.ensures

pub returns-in-First : goal.returns-in-First
returns-in-First c = rw c.in-First.is at c.in_ok-parse.ensures

pub returns-in-Second-First : goal.returns-in-Second-First
returns-in-Second-First c = rw (c.in-Second-First.is, c.in-Second-First.field-0-is) at c.in_ok-parse.ensures

pub returns-in-Second-Second-First : goal.returns-in-Second-Second-First
returns-in-Second-Second-First c = rw (c.in-Second-Second-First.is, c.in-Second-Second-First.field-0-is, c.in-Second-Second-First.field-0-0-is) at c.in_ok-parse.ensures

pub returns-in-Second-Second-Second-First : goal.returns-in-Second-Second-Second-First
returns-in-Second-Second-Second-First c = rw (c.in-Second-Second-Second-First.is, c.in-Second-Second-Second-First.field-0-is, c.in-Second-Second-Second-First.field-0-0-is, c.in-Second-Second-Second-First.field-0-0-0-is) at c.in_ok-parse.ensures

pub returns-in-Second-Second-Second-Second : goal.returns-in-Second-Second-Second-Second
returns-in-Second-Second-Second-Second c = rw c.other_kind.ensures (rw (c.in-Second-Second-Second-Second.is, c.in-Second-Second-Second-Second.field-0-is, c.in-Second-Second-Second-Second.field-0-0-is, c.in-Second-Second-Second-Second.field-0-0-0-is) at c.in_ok-parse.ensures)
