use Rattle.std.proofs.Common.{◌++◌, refl}
use Rattle.sv_ast.specs.Syntax as g
use Rattle.sv_ast.specs.Firsts.{firsts}
use Rattle.sv_read.specs.Here.{seen}
use Rattle.sv_parse_stmt.proofs.FirstSets.{begins_one, begins_other}
use Rattle.sv_parse_stmt.proofs.loops.ForStartBeginsStatements.begins.Goals as goal

pub returns-then-sees_type : goal.returns-then-sees_type
returns-then-sees_type γ c = begins_one (seen c.args.cursor.now) (firsts g.type) (firsts g.type ++ firsts g.action) refl c.sees_type.ensures c.if-sees_type.true

pub returns-else-sees_type : goal.returns-else-sees_type
returns-else-sees_type γ c = begins_other (seen c.args.cursor.now) (firsts g.type) (firsts g.action) (firsts g.type ++ firsts g.action) refl refl c.sees_type.ensures c.if-sees_type.false c.begins.ensures
