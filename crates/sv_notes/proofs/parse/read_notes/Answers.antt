use Rattle.std.proofs.Common.{map}
use Rattle.sv_grammar.specs.Grammar.{side, star}
use Rattle.sv_grammar.specs.ListTrees.{list_tree}
use Rattle.sv_ast.specs.Syntax as g
use Rattle.sv_ast.specs.SimpleTrees.{note_tree}
use Rattle.sv_parse_expr.proofs.Answering.{notes_exactly}
use Rattle.sv_notes.proofs.parse.read_notes.Goals as goal

pub returns : goal.returns
returns c = record {
  answers = c.parse_by.ensures.answers (λ ns. list_tree (map note_tree ns)) (star (side g.note_line)) notes_exactly (λ old new r p. p);
  grows = c.parse_by.ensures.grows;
  texts = c.parse_by.ensures.texts;
}
