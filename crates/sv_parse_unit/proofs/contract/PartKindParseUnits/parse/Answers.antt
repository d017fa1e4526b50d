use Rattle.sv_read.proofs.Exits.{left_by}
use Rattle.sv_parse_unit.proofs.contract.PartKindParseUnits.parse.Goals as goal

pub parse-requires : goal.parse-requires
parse-requires c = c.requires

pub returns-in_err-read : goal.returns-in_err-read
returns-in_err-read c = left_by _ _ _ _ _ _ c.from_residual.ensures c.in_err-read.ensures

pub returns : goal.returns
returns c = rw c.kind_of.ensures c.in_ok-read.ensures
