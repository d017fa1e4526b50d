-- Serves the proof: the words that the contracts of the readers of statements cite, from one place.
pub use Rattle.sv_grammar.specs.Grammar.{elem, side, opt, both, seq}
pub use Rattle.sv_grammar.specs.Named.{Grows}
pub use Rattle.sv_lex.specs.Limits.{HasNo, IsDeep}
pub use Rattle.sv_ast.specs.ExprTrees.{args_tree, expr_tree, type_tree}
pub use Rattle.sv_ast.specs.Firsts.{firsts}
pub use Rattle.sv_ast.specs.SimpleTrees.{action_tree, action_kind_tree, assignment_tree, assign_op_tree}
pub use Rattle.sv_ast.specs.SimpleTrees.{assign_op_kind_tree, decl_tree, location_tree, location_kind_tree, note_tree}
pub use Rattle.sv_ast.specs.SimpleTrees.{return_tree, returned_tree, simple_tree, simple_kind_tree, slot_tree}
pub use Rattle.sv_ast.specs.SimpleTrees.{slot_kind_tree, tuple_tree, two_or_more}
pub use Rattle.sv_ast.specs.StmtTrees.{block_tree, body_tree, body_kind_tree, for_tree, stmt_tree, stmt_kind_tree}
pub use Rattle.sv_ast.specs.StmtTrees.{while_tree, if_tree, for_start_tree, keyword_tree}
pub use Rattle.sv_ast.specs.Syntax.{◌⊙◌, but_semicolon, listed, quoted, id}
pub use Rattle.sv_ast.specs.Trees.{last}
pub use Rattle.sv_read.specs.EitherTree.{either_tree}
pub use Rattle.sv_read.specs.Nesting.{MayRead, leads, Nests}
pub use Rattle.sv_read.specs.PartReading.{Reads}
pub use Rattle.sv_parse_expr.specs.Answers.{AddsTexts, Answers}
pub use Rattle.sv_parse_stmt.specs.Branches.{ended_tree}
pub use Rattle.sv_parse_stmt.specs.StmtParts.{inner, told_tree, but_name}
