use Rattle.sv_read.specs.PartReading.{no_memory}
use Rattle.sv_read.proofs.Exits.{left_by}
use Rattle.sv_parse_unit.proofs.reader.SeveralParseUnits.parse.Goals as goal

pub parse-requires : goal.parse-requires
parse-requires g c = c.requires

pub returns-in_err-first : goal.returns-in_err-first
returns-in_err-first g c = left_by _ _ _ _ _ _ c.from_residual.ensures c.in_err-first.ensures

pub returns-in_err-with_first : goal.returns-in_err-with_first
returns-in_err-with_first g c = left_by _ _ _ _ _ _ c.from_residual-in_err-with_first.ensures no_memory

pub returns : goal.returns
returns g c = rw c.in_ok-with_first.ensures c.in_ok-first.ensures
