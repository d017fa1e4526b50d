use Rattle.std.proofs.Common.{map}
use Rattle.sv_grammar.specs.Grammar.{name}
use Rattle.sv_read.proofs.Exits.{left_by}
use Rattle.sv_parse_unit.proofs.LeftOut.{gives_names}
use Rattle.sv_parse_unit.proofs.function.NamesParseUnits.parse.Goals as goal

pub parse-requires : goal.parse-requires
parse-requires c = c.requires

pub returns-in_err-names : goal.returns-in_err-names
returns-in_err-names c = left_by _ _ _ _ _ _ c.from_residual.ensures c.in_err-names.ensures

pub returns-in-Some : goal.returns-in-Some
returns-in-Some c = gives_names (map name c.in-Some.names.0) (rw c.in-Some.is at c.in_ok-names.ensures)

pub returns-in-None : goal.returns-in-None
returns-in-None c = rw c.new.ensures (rw c.in-None.is at c.in_ok-names.ensures)
