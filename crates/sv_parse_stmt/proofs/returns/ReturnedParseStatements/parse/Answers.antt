use Rattle.sv_read.proofs.Exits.{left_by}
use Rattle.sv_parse_stmt.proofs.returns.ReturnedParseStatements.parse.Goals as goal

pub parse-requires : goal.parse-requires
parse-requires g c = c.requires

pub returns-in_err-value : goal.returns-in_err-value
returns-in_err-value g c = left_by _ _ _ _ _ _ c.from_residual.ensures c.in_err-value.ensures
