use Rattle.std.proofs.Common.{[], ◌∷◌, map, refl}
use Rattle.sv_ast.specs.declared.class.Class.TheVariants as k
use Rattle.sv_ast.specs.Terminals.{code}
use Rattle.sv_ast.specs.Syntax as g
use Rattle.sv_ast.specs.Firsts.{firsts}
use Rattle.sv_read.specs.Here.{seen}
use Rattle.sv_parse_stmt.proofs.FirstSets.{begins_one, begins_other}
use Rattle.sv_parse_stmt.proofs.block.StmtBeginsStatements.begins.Goals as goal

pub returns-then-begins : goal.returns-then-begins
returns-then-begins γ c = begins_one (seen c.args.cursor.now) (firsts g.simple) (firsts g.stmt) refl c.begins.ensures c.if-begins.true

pub returns-else-begins : goal.returns-else-begins
returns-else-begins γ c = begins_other (seen c.args.cursor.now) (firsts g.simple) (map code (k.Note ∷ k.For ∷ k.If ∷ k.Unchecked ∷ k.While ∷ k.LBrace ∷ [])) (firsts g.stmt) refl refl c.begins.ensures c.if-begins.false c.sees_any.ensures
