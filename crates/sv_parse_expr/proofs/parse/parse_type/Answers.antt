use Rattle.sv_grammar.specs.Grammar.{side}
use Rattle.sv_ast.specs.Syntax as g
use Rattle.sv_ast.specs.ExprTrees.{type_tree}
use Rattle.sv_parse_expr.proofs.Answering.{side_exactly}
use Rattle.sv_parse_expr.proofs.parse.parse_type.Goals as goal

pub returns : goal.returns
returns c = record {
  answers = c.parse_by.ensures.answers type_tree (side g.type) (side_exactly g.type) (λ old new r p. p);
  grows = c.parse_by.ensures.grows;
  texts = c.parse_by.ensures.texts;
}
