use Rattle.std.proofs.Common.{[], ◌∷◌, ◌++◌, map, refl}
use Rattle.sv_ast.specs.declared.class.Class.TheVariants as k
use Rattle.sv_ast.specs.Terminals.{code}
use Rattle.sv_ast.specs.Syntax as g
use Rattle.sv_ast.specs.Firsts.{firsts}
use Rattle.sv_read.specs.Here.{seen}
use Rattle.sv_parse_stmt.proofs.FirstSets.{begins_one, begins_other}
use Rattle.sv_parse_stmt.proofs.simple.SimpleBeginsStatements.begins.Goals as goal

pub returns-then-begins : goal.returns-then-begins
returns-then-begins γ c = begins_one (seen c.args.cursor.now) (firsts g.type ++ firsts g.action) (firsts g.simple) refl c.begins.ensures c.if-begins.true

pub returns-else-begins : goal.returns-else-begins
returns-else-begins γ c = begins_other (seen c.args.cursor.now) (firsts g.type ++ firsts g.action) (map code (k.Break ∷ k.Continue ∷ k.Emit ∷ k.Return ∷ k.Underscore ∷ [])) (firsts g.simple) refl refl c.begins.ensures c.if-begins.false c.sees_any.ensures
