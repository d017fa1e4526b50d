use Rattle.std.proofs.Common.{◌++◌, [], ◌∷◌, refl}
use Rattle.sv_ast.specs.Terminals.{code}
use Rattle.sv_ast.specs.declared.class.Class.TheVariants as k
use Rattle.sv_ast.specs.Syntax as g
use Rattle.sv_ast.specs.Firsts.{firsts}
use Rattle.sv_read.specs.Here.{seen}
use Rattle.sv_parse_stmt.proofs.FirstSets.{begins_same}
use Rattle.sv_parse_stmt.proofs.returns.ReturnedBeginsStatements.begins.Goals as goal

pub returns : goal.returns
returns γ c = begins_same (seen c.args.cursor.now) (firsts g.expr) (firsts g.expr ++ code k.LParen ∷ []) refl refl c.sees_expr.ensures
