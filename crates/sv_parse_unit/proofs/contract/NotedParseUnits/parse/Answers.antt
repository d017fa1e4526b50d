use Rattle.sv_read.proofs.Exits.{left_by}
use Rattle.sv_read.proofs.Tables.{word_if}
use Rattle.sv_parse_unit.proofs.contract.NotedParseUnits.parse.Goals as goal

pub parse-requires : goal.parse-requires
parse-requires c = c.requires

pub returns-in_err-notes : goal.returns-in_err-notes
returns-in_err-notes c = left_by _ _ _ _ _ _ c.from_residual.ensures c.in_err-notes.ensures

pub returns : goal.returns
returns c = rw (c.is_some.ensures, word_if c.in_ok-notes.word) c.in_ok-notes.ensures
