use Rattle.sv_ast.proofs.ExprLaws.{plain_elementary_is, plain_address_is, plain_string_is, plain_named_is, plain_mapping_is}
use Rattle.sv_grammar.specs.Grammar.{name}
use Rattle.sv_read.proofs.Exits.{left_by}
use Rattle.sv_read.proofs.Tables.{word_if}
use Rattle.sv_parse_expr.proofs.types.PlainKindParseExprs.parse.Goals as goal

pub parse-requires : goal.parse-requires
parse-requires g c = c.requires

pub returns-in_err-elementary : goal.returns-in_err-elementary
returns-in_err-elementary g c = left_by _ _ _ _ _ _ c.from_residual.ensures c.in_err-elementary.ensures

pub returns-in-First : goal.returns-in-First
returns-in-First g c = rw (plain_elementary_is c.in-First.elementary.0) (rw c.in-First.is at c.in_ok-elementary.ensures)

pub returns-in-Second-First : goal.returns-in-Second-First
returns-in-Second-First g c = rw (plain_address_is c.is_some.result, c.is_some.ensures, word_if c.in-Second-First.payable) (rw (c.in-Second-First.is, c.in-Second-First.field-0-is) at c.in_ok-elementary.ensures)

pub returns-in-Second-Second-First : goal.returns-in-Second-Second-First
returns-in-Second-Second-First g c = rw (plain_string_is) (rw (c.in-Second-Second-First.is, c.in-Second-Second-First.field-0-is, c.in-Second-Second-First.field-0-0-is) at c.in_ok-elementary.ensures)

pub returns-in-Second-Second-Second-First : goal.returns-in-Second-Second-Second-First
returns-in-Second-Second-Second-First g c = rw (plain_named_is c.in-Second-Second-Second-First.name c.behind.result, c.behind.ensures name) (rw (c.in-Second-Second-Second-First.is, c.in-Second-Second-Second-First.field-0-is, c.in-Second-Second-Second-First.field-0-0-is, c.in-Second-Second-Second-First.field-0-0-0-is) at c.in_ok-elementary.ensures)

pub returns-in-Second-Second-Second-Second : goal.returns-in-Second-Second-Second-Second
returns-in-Second-Second-Second-Second g c = rw (plain_mapping_is _ _ _ _) (rw (c.in-Second-Second-Second-Second.is, c.in-Second-Second-Second-Second.field-0-is, c.in-Second-Second-Second-Second.field-0-0-is, c.in-Second-Second-Second-Second.field-0-0-0-is) at c.in_ok-elementary.ensures)
