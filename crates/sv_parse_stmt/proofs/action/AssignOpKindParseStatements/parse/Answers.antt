use Rattle.sv_read.proofs.Exits.{left_by}
use Rattle.sv_parse_stmt.proofs.action.AssignOpKindParseStatements.parse.Goals as goal

pub parse-requires : goal.parse-requires
parse-requires g c = c.requires

pub returns-in_err-parse : goal.returns-in_err-parse
returns-in_err-parse g c = left_by _ _ _ _ _ _ c.from_residual.ensures c.in_err-parse.ensures

pub returns-in-First : goal.returns-in-First
returns-in-First g c = rw c.in-First.is at c.in_ok-parse.ensures

pub returns-in-Second-First : goal.returns-in-Second-First
returns-in-Second-First g c = rw (c.in-Second-First.is, c.in-Second-First.field-0-is) at c.in_ok-parse.ensures

pub returns-in-Second-Second-First : goal.returns-in-Second-Second-First
returns-in-Second-Second-First g c = rw (c.in-Second-Second-First.is, c.in-Second-Second-First.field-0-is, c.in-Second-Second-First.field-0-0-is) at c.in_ok-parse.ensures

pub returns-in-Second-Second-Second-First : goal.returns-in-Second-Second-Second-First
returns-in-Second-Second-Second-First g c = rw (c.in-Second-Second-Second-First.is, c.in-Second-Second-Second-First.field-0-is, c.in-Second-Second-Second-First.field-0-0-is, c.in-Second-Second-Second-First.field-0-0-0-is) at c.in_ok-parse.ensures

pub returns-in-Second-Second-Second-Second-First : goal.returns-in-Second-Second-Second-Second-First
returns-in-Second-Second-Second-Second-First g c = rw (c.in-Second-Second-Second-Second-First.is, c.in-Second-Second-Second-Second-First.field-0-is, c.in-Second-Second-Second-Second-First.field-0-0-is, c.in-Second-Second-Second-Second-First.field-0-0-0-is, c.in-Second-Second-Second-Second-First.field-0-0-0-0-is) at c.in_ok-parse.ensures

pub returns-in-Second-Second-Second-Second-Second : goal.returns-in-Second-Second-Second-Second-Second
returns-in-Second-Second-Second-Second-Second g c = rw (c.in-Second-Second-Second-Second-Second.is, c.in-Second-Second-Second-Second-Second.field-0-is, c.in-Second-Second-Second-Second-Second.field-0-0-is, c.in-Second-Second-Second-Second-Second.field-0-0-0-is, c.in-Second-Second-Second-Second-Second.field-0-0-0-0-is) at c.in_ok-parse.ensures
