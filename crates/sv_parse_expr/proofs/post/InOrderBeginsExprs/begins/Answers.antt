use Rattle.std.proofs.Common.{sym, ◌∙◌}
use Rattle.sv_ast.specs.Syntax.{listed, quoted, expr}
use Rattle.sv_ast.specs.declared.class.Class.TheVariants as k
use Rattle.sv_grammar.specs.Grammar.{opt, side}
use Rattle.sv_read.proofs.Tables.{first_of_one, first_of_other}
use Rattle.sv_read.specs.Here.{seen}
use Rattle.sv_parse_expr.proofs.post.InOrderBeginsExprs.begins.Goals as goal

pub returns-then-sees_expr : goal.returns-then-sees_expr
returns-then-sees_expr g c = c.if-sees_expr.true ∙ first_of_one (seen c.args.cursor.now) (opt (listed (side expr))) (quoted k.RParen) (sym c.sees_expr.ensures ∙ c.if-sees_expr.true)

pub returns-else-sees_expr : goal.returns-else-sees_expr
returns-else-sees_expr g c = c.sees.ensures ∙ first_of_other (seen c.args.cursor.now) (opt (listed (side expr))) (quoted k.RParen) (sym c.sees_expr.ensures ∙ c.if-sees_expr.false)
