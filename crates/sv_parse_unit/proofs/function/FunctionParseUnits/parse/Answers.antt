use Rattle.std.proofs.Common.{arith, refl}
use Rattle.sv_ast.specs.Syntax as g
use Rattle.sv_read.proofs.Exits.{left_by}
use Rattle.sv_ast.specs.ContractTrees.{params_tree}
use Rattle.sv_parse_unit.proofs.function.FunctionParseUnits.parse.Goals as goal

pub placed-requires : goal.placed-requires
placed-requires c = c.requires

pub returns-in_err-notes : goal.returns-in_err-notes
returns-in_err-notes c = left_by _ _ _ _ _ _ c.from_residual.ensures (c.in_err-notes.ensures g.function refl)

pub behind-requires : goal.behind-requires
behind-requires c = omega arith

pub returns : goal.returns
returns c = rw (c.behind.ensures params_tree, c.body_of.ensures) (c.in_ok-notes.ensures g.function refl)
