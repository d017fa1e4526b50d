-- Serves the proof: the words that the contracts of the readers of whole texts cite, from one place.
pub use Rattle.sv_grammar.specs.Grammar.{elem, name, opt, side, star, unit, text, node, both}
pub use Rattle.sv_grammar.specs.ListTrees.{list_tree}
pub use Rattle.sv_grammar.specs.Named.{Grows}
pub use Rattle.sv_lex.specs.Limits.{HasNo, IsDeep}
pub use Rattle.sv_ast.specs.ContractTrees.{base_list_tree, base_tree, bases_tree, contract_kind_tree, contract_tree}
pub use Rattle.sv_ast.specs.ContractTrees.{ctor_tree, function_tree, part_kind_tree, part_tree, var_word_kind_tree}
pub use Rattle.sv_ast.specs.ContractTrees.{var_word_tree, variable_tree, variable_word_tree, function_body_tree}
pub use Rattle.sv_ast.specs.ContractTrees.{head_kind_tree, head_tree, modifier_tree, modifier_word_tree}
pub use Rattle.sv_ast.specs.ContractTrees.{over_names_tree, over_tree, param_tree, params_tree, special_tree}
pub use Rattle.sv_ast.specs.DeclarationTrees.{enum_tree, er_par_tree, error_tree, ev_par_tree, event_tree, field_tree}
pub use Rattle.sv_ast.specs.DeclarationTrees.{struct_tree}
pub use Rattle.sv_ast.specs.ExprTrees.{args_tree, expr_tree, type_tree}
pub use Rattle.sv_ast.specs.SimpleTrees.{note_tree, location_tree}
pub use Rattle.sv_ast.specs.StmtTrees.{block_tree}
pub use Rattle.sv_ast.specs.Syntax.{id, listed, quoted, ◌⊙◌, ◌∣◌, Side, kept}
pub use Rattle.sv_ast.specs.Terminals.{code}
pub use Rattle.sv_ast.specs.Trees.{◌⊗◌, last, optional_word, extent, several}
pub use Rattle.sv_ast.specs.UnitTrees.{unit_tree, file_const_tree, unit_item_tree}
pub use Rattle.sv_read.specs.EitherTree.{either_tree}
pub use Rattle.sv_read.specs.Nesting.{MayRead, leads}
pub use Rattle.sv_read.specs.PartReading.{Reads}
pub use Rattle.sv_parse_expr.specs.Answers.{AddsTexts, place_of_token}
pub use Rattle.sv_parse_expr.specs.declared.parse_fault.ParseFault.TheVariants.{Syntax}
pub use Rattle.sv_parse_unit.specs.AnswersUnit.{AnswersUnit}
