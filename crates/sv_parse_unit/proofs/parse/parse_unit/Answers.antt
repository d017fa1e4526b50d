use Rattle.sv_grammar.specs.Grammar.{side}
use Rattle.sv_ast.specs.Syntax as s
use Rattle.sv_ast.specs.UnitTrees.{unit_tree}
use Rattle.sv_parse_expr.proofs.Answering.{side_exactly}
use Rattle.sv_parse_unit.proofs.Whole.{fault_is, whole_is}
use Rattle.sv_parse_unit.proofs.parse.parse_unit.Goals as goal

pub returns-in-Ok : goal.returns-in-Ok
returns-in-Ok c =
    let read = c.in-Ok.ensures.answers unit_tree (side s.unit) (side_exactly s.unit) (λ old new r p. p) in
    record {
      answers = whole_is c.args.tokens.now c.parse_by.new.names _ _ _ read.0 read.1 c.whole.ensures.ok c.whole.ensures.left c.whole.ensures.err;
      grows = c.in-Ok.ensures.grows;
      texts = c.in-Ok.ensures.texts;
    }

pub returns-in-Err : goal.returns-in-Err
returns-in-Err c = record {
  answers = fault_is c.args.tokens.now c.parse_by.new.names _ (c.in-Err.ensures.answers unit_tree (side s.unit) (side_exactly s.unit) (λ old new r p. p));
  grows = c.in-Err.ensures.grows;
  texts = c.in-Err.ensures.texts;
}
