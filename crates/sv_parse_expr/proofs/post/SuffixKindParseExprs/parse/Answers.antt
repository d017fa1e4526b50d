use Rattle.sv_ast.proofs.ExprLaws.{suffix_index_is, suffix_member_is, suffix_call_is, suffix_value_is, suffix_increment_is, suffix_decrement_is}
use Rattle.sv_read.proofs.Exits.{left_by}
use Rattle.sv_parse_expr.proofs.post.SuffixKindParseExprs.parse.Goals as goal

pub parse-requires : goal.parse-requires
parse-requires g c = c.requires

pub returns-in_err-index : goal.returns-in_err-index
returns-in_err-index g c = left_by _ _ _ _ _ _ c.from_residual.ensures c.in_err-index.ensures

pub returns-in-First : goal.returns-in-First
returns-in-First g c = rw (suffix_index_is c.in-First.index) (rw c.in-First.is at c.in_ok-index.ensures)

pub returns-in-Second-First : goal.returns-in-Second-First
returns-in-Second-First g c = rw (suffix_member_is c.in-Second-First.member) (rw (c.in-Second-First.is, c.in-Second-First.field-0-is) at c.in_ok-index.ensures)

pub returns-in-Second-Second-First : goal.returns-in-Second-Second-First
returns-in-Second-Second-First g c = rw (suffix_call_is c.in-Second-Second-First.args) (rw (c.in-Second-Second-First.is, c.in-Second-Second-First.field-0-is, c.in-Second-Second-First.field-0-0-is) at c.in_ok-index.ensures)

pub returns-in-Second-Second-Second-First : goal.returns-in-Second-Second-Second-First
returns-in-Second-Second-Second-First g c = rw (suffix_value_is c.in-Second-Second-Second-First.given.1) (rw (c.in-Second-Second-Second-First.is, c.in-Second-Second-Second-First.field-0-is, c.in-Second-Second-Second-First.field-0-0-is, c.in-Second-Second-Second-First.field-0-0-0-is) at c.in_ok-index.ensures)

pub returns-in-Second-Second-Second-Second-First : goal.returns-in-Second-Second-Second-Second-First
returns-in-Second-Second-Second-Second-First g c = rw (suffix_increment_is) (rw (c.in-Second-Second-Second-Second-First.is, c.in-Second-Second-Second-Second-First.field-0-is, c.in-Second-Second-Second-Second-First.field-0-0-is, c.in-Second-Second-Second-Second-First.field-0-0-0-is, c.in-Second-Second-Second-Second-First.field-0-0-0-0-is) at c.in_ok-index.ensures)

pub returns-in-Second-Second-Second-Second-Second : goal.returns-in-Second-Second-Second-Second-Second
returns-in-Second-Second-Second-Second-Second g c = rw (suffix_decrement_is) (rw (c.in-Second-Second-Second-Second-Second.is, c.in-Second-Second-Second-Second-Second.field-0-is, c.in-Second-Second-Second-Second-Second.field-0-0-is, c.in-Second-Second-Second-Second-Second.field-0-0-0-is, c.in-Second-Second-Second-Second-Second.field-0-0-0-0-is) at c.in_ok-index.ensures)
