use Rattle.sv_ast.proofs.ExprLaws.{atom_address_is, atom_payable_is, atom_type_is, atom_super_is, atom_this_is, atom_paren_is}
use Rattle.sv_parse_expr.proofs.post.by_word.Goals as goal

pub returns-in-First : goal.returns-in-First
returns-in-First g c = rw c.in-First.is atom_address_is

pub returns-in-Second-First : goal.returns-in-Second-First
returns-in-Second-First g c = rw (c.in-Second-First.is, c.in-Second-First.field-0-is) atom_payable_is

pub returns-in-Second-Second-First : goal.returns-in-Second-Second-First
returns-in-Second-Second-First g c = rw (c.in-Second-Second-First.is, c.in-Second-Second-First.field-0-is, c.in-Second-Second-First.field-0-0-is) (atom_type_is _)

pub returns-in-Second-Second-Second-First : goal.returns-in-Second-Second-Second-First
returns-in-Second-Second-Second-First g c = rw (c.in-Second-Second-Second-First.is, c.in-Second-Second-Second-First.field-0-is, c.in-Second-Second-Second-First.field-0-0-is, c.in-Second-Second-Second-First.field-0-0-0-is) atom_super_is

pub returns-in-Second-Second-Second-Second-First : goal.returns-in-Second-Second-Second-Second-First
returns-in-Second-Second-Second-Second-First g c = rw (c.in-Second-Second-Second-Second-First.is, c.in-Second-Second-Second-Second-First.field-0-is, c.in-Second-Second-Second-Second-First.field-0-0-is, c.in-Second-Second-Second-Second-First.field-0-0-0-is, c.in-Second-Second-Second-Second-First.field-0-0-0-0-is) atom_this_is

pub returns-in-Second-Second-Second-Second-Second : goal.returns-in-Second-Second-Second-Second-Second
returns-in-Second-Second-Second-Second-Second g c = rw (c.in-Second-Second-Second-Second-Second.is, c.in-Second-Second-Second-Second-Second.field-0-is, c.in-Second-Second-Second-Second-Second.field-0-0-is, c.in-Second-Second-Second-Second-Second.field-0-0-0-is, c.in-Second-Second-Second-Second-Second.field-0-0-0-0-is) (atom_paren_is _)
