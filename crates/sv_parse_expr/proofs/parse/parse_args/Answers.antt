use Rattle.sv_grammar.specs.Grammar.{side}
use Rattle.sv_ast.specs.Syntax as g
use Rattle.sv_ast.specs.ExprTrees.{args_tree}
use Rattle.sv_parse_expr.proofs.Answering.{side_exactly}
use Rattle.sv_parse_expr.proofs.parse.parse_args.Goals as goal

pub returns : goal.returns
returns c = record {
  answers = c.parse_by.ensures.answers args_tree (side g.args) (side_exactly g.args) (λ old new r p. p);
  grows = c.parse_by.ensures.grows;
  texts = c.parse_by.ensures.texts;
}
