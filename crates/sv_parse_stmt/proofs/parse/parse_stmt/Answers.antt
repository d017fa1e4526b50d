use Rattle.sv_grammar.specs.Grammar.{side}
use Rattle.sv_ast.specs.Syntax as g
use Rattle.sv_ast.specs.StmtTrees.{stmt_tree}
use Rattle.sv_parse_expr.proofs.Answering.{side_exactly}
use Rattle.sv_parse_stmt.proofs.parse.parse_stmt.Goals as goal

pub returns : goal.returns
returns c = record {
  answers = c.parse_by.ensures.answers stmt_tree (side g.stmt) (side_exactly g.stmt) (λ old new r p. p);
  grows = c.parse_by.ensures.grows;
  texts = c.parse_by.ensures.texts;
}
