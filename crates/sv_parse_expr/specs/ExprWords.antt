-- Serves the proof: the words that the contracts of the readers of expressions cite, from one place.
pub use Rattle.sv_grammar.specs.Grammar.{elem, side, opt, unit}
pub use Rattle.sv_grammar.specs.Named.{Grows}
pub use Rattle.sv_lex.specs.Limits.{HasNo, IsDeep}
pub use Rattle.sv_ast.specs.ExprTrees.{and_tree, arms_tree, expr_tree, less_op_tree, less_rest_tree, less_tree}
pub use Rattle.sv_ast.specs.ExprTrees.{or_tree, power_tree, prod_op_tree, prod_rest_tree, prod_tree, same_op_tree}
pub use Rattle.sv_ast.specs.ExprTrees.{same_rest_tree, same_tree, sum_op_tree, sum_rest_tree, sum_tree}
pub use Rattle.sv_ast.specs.ExprTrees.{term_kind_tree, term_tree, unary_op_tree, unary_operand_tree, unary_tree}
pub use Rattle.sv_ast.specs.ExprTrees.{args_tree, type_tree, args_kind_tree, atom_kind_tree, atom_tree}
pub use Rattle.sv_ast.specs.ExprTrees.{named_arg_tree, post_tree, suffix_kind_tree, suffix_tree, unit10_kind_tree}
pub use Rattle.sv_ast.specs.ExprTrees.{unit10_tree, dimension_tree, plain_kind_tree, plain_tree}
pub use Rattle.sv_ast.specs.Firsts.{firsts}
pub use Rattle.sv_ast.specs.Syntax.{quoted, ◌∣◌, ◌⊙◌, listed, brackets}
pub use Rattle.sv_ast.specs.Terminals.{code}
pub use Rattle.sv_ast.specs.Trees.{◌⊗◌, last, optional_commas}
pub use Rattle.sv_read.specs.EitherTree.{either_tree}
pub use Rattle.sv_read.specs.Here.{seen, Here}
pub use Rattle.sv_read.specs.Nesting.{MayRead, Nests}
pub use Rattle.sv_read.specs.PartReading.{Reads}
pub use Rattle.sv_parse_expr.specs.Answers.{AddsTexts, Answers, place_of_token}
pub use Rattle.sv_parse_expr.specs.Exact.{AnswersBy, Show, fault_of}
pub use Rattle.sv_parse_expr.specs.Inner.{May, inner}
pub use Rattle.sv_parse_expr.specs.PostParts.{args_part, named}
