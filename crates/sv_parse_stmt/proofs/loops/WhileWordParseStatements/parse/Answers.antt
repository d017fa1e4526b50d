use Rattle.std.proofs.Common.{refl}
use Rattle.sv_read.proofs.Exits.{left_by}
use Rattle.sv_ast.specs.Syntax as s
use Rattle.sv_parse_stmt.proofs.loops.WhileWordParseStatements.parse.Goals as goal

pub placed-requires : goal.placed-requires
placed-requires γ c = c.requires

pub returns-in_err-span : goal.returns-in_err-span
returns-in_err-span γ c = left_by _ _ _ _ _ _ c.from_residual.ensures (c.in_err-span.ensures s.while_word refl)

pub returns : goal.returns
returns γ c = c.in_ok-span.ensures s.while_word refl
