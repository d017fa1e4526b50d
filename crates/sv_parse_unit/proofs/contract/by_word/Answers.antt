use Rattle.std.proofs.Common.{refl}
use Rattle.sv_parse_unit.proofs.contract.by_word.Goals as goal

pub returns-in-First : goal.returns-in-First
returns-in-First c = rw c.in-First.is refl

pub returns-in-Second-First : goal.returns-in-Second-First
returns-in-Second-First c = rw (c.in-Second-First.is, c.in-Second-First.field-0-is) refl

pub returns-in-Second-Second-First : goal.returns-in-Second-Second-First
returns-in-Second-Second-First c = rw (c.in-Second-Second-First.is, c.in-Second-Second-First.field-0-is, c.in-Second-Second-First.field-0-0-is) refl

pub returns-in-Second-Second-Second-First : goal.returns-in-Second-Second-Second-First
returns-in-Second-Second-Second-First c = rw (c.in-Second-Second-Second-First.is, c.in-Second-Second-Second-First.field-0-is, c.in-Second-Second-Second-First.field-0-0-is, c.in-Second-Second-Second-First.field-0-0-0-is) refl

pub returns-in-Second-Second-Second-Second-First : goal.returns-in-Second-Second-Second-Second-First
returns-in-Second-Second-Second-Second-First c = rw (c.in-Second-Second-Second-Second-First.is, c.in-Second-Second-Second-Second-First.field-0-is, c.in-Second-Second-Second-Second-First.field-0-0-is, c.in-Second-Second-Second-Second-First.field-0-0-0-is, c.in-Second-Second-Second-Second-First.field-0-0-0-0-is) refl

pub returns-in-Second-Second-Second-Second-Second : goal.returns-in-Second-Second-Second-Second-Second
returns-in-Second-Second-Second-Second-Second c = rw (c.in-Second-Second-Second-Second-Second.is, c.in-Second-Second-Second-Second-Second.field-0-is, c.in-Second-Second-Second-Second-Second.field-0-0-is, c.in-Second-Second-Second-Second-Second.field-0-0-0-is, c.in-Second-Second-Second-Second-Second.field-0-0-0-0-is) refl
