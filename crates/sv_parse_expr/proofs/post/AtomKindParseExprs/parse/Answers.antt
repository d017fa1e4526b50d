use Rattle.sv_ast.proofs.ExprLaws.{atom_number_is, atom_hexadecimal_is, atom_string_is}
use Rattle.sv_read.proofs.Exits.{left_by}
use Rattle.sv_parse_expr.proofs.post.AtomKindParseExprs.parse.Goals as goal

pub parse-requires : goal.parse-requires
parse-requires g c = c.requires

pub returns-in_err-digits : goal.returns-in_err-digits
returns-in_err-digits g c = left_by _ _ _ _ _ _ c.from_residual.ensures c.in_err-digits.ensures

pub returns-in-First : goal.returns-in-First
returns-in-First g c = rw (atom_number_is c.in-First.digits.0 c.in-First.unit) (rw c.in-First.is at c.in_ok-digits.ensures)

pub returns-in-Second-First : goal.returns-in-Second-First
returns-in-Second-First g c = rw (atom_hexadecimal_is c.in-Second-First.digits.0) (rw (c.in-Second-First.is, c.in-Second-First.field-0-is) at c.in_ok-digits.ensures)

pub returns-in-Second-Second-First : goal.returns-in-Second-Second-First
returns-in-Second-Second-First g c = rw (atom_string_is c.in-Second-Second-First.string.0) (rw (c.in-Second-Second-First.is, c.in-Second-Second-First.field-0-is, c.in-Second-Second-First.field-0-0-is) at c.in_ok-digits.ensures)

pub returns-in-Second-Second-Second : goal.returns-in-Second-Second-Second
returns-in-Second-Second-Second g c = rw (c.by_name.ensures) (rw (c.in-Second-Second-Second.is, c.in-Second-Second-Second.field-0-is, c.in-Second-Second-Second.field-0-0-is) at c.in_ok-digits.ensures)
