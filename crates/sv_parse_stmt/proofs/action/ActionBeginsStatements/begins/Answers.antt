use Rattle.std.proofs.Common.{[], ◌∷◌, refl}
use Rattle.sv_ast.specs.declared.class.Class.TheVariants as k
use Rattle.sv_ast.specs.Terminals.{code}
use Rattle.sv_ast.specs.Syntax as g
use Rattle.sv_ast.specs.Firsts.{firsts}
use Rattle.sv_read.specs.Here.{seen}
use Rattle.sv_parse_stmt.proofs.FirstSets.{begins_one, begins_other}
use Rattle.sv_parse_stmt.proofs.action.ActionBeginsStatements.begins.Goals as goal

pub returns-then-sees : goal.returns-then-sees
returns-then-sees γ c = begins_one (seen c.args.cursor.now) (code k.Delete ∷ []) (firsts g.action) refl c.sees.ensures c.if-sees.true

pub returns-else-sees : goal.returns-else-sees
returns-else-sees γ c = begins_other (seen c.args.cursor.now) (code k.Delete ∷ []) (firsts g.expr) (firsts g.action) refl refl c.sees.ensures c.if-sees.false c.sees_expr.ensures
