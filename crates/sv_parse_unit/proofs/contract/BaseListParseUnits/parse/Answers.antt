use Rattle.std.proofs.Common.{map}
use Rattle.sv_ast.specs.ContractTrees.{base_tree}
use Rattle.sv_read.proofs.Exits.{left_by}
use Rattle.sv_parse_unit.proofs.LeftOut.{gives_bases}
use Rattle.sv_parse_unit.proofs.contract.BaseListParseUnits.parse.Goals as goal

pub parse-requires : goal.parse-requires
parse-requires c = c.requires

pub returns-in_err-bases : goal.returns-in_err-bases
returns-in_err-bases c = left_by _ _ _ _ _ _ c.from_residual.ensures c.in_err-bases.ensures

pub returns-in-Some : goal.returns-in-Some
returns-in-Some c = gives_bases (map base_tree c.in-Some.bases.0) (rw c.in-Some.is at c.in_ok-bases.ensures)

pub returns-in-None : goal.returns-in-None
returns-in-None c = rw c.new.ensures (rw c.in-None.is at c.in_ok-bases.ensures)
