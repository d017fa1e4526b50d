-- Believed: the trees of declarations and of a whole text. Hold it against the types of `src/unit.rt`, and docs/grammar.md.
use Rattle.std.specs.Prelude.{map}
use Rattle.sv_grammar.specs.Grammar.{Tree, unit, name, node}
use Rattle.sv_grammar.specs.ListTrees.{list_tree}
use Rattle.sv_ast.specs.Trees.{extent, ◌⊗◌, nth, last}
use Rattle.sv_ast.specs.ExprTrees.{expr_tree, type_tree}
use Rattle.sv_ast.specs.ContractTrees.{contract_tree}
use Rattle.sv_ast.specs.DeclarationTrees.{struct_tree, enum_tree, event_tree, error_tree}
use Rattle.sv_ast.specs.declared.unit.Unit.{Unit as UnitNode}
use Rattle.sv_ast.specs.declared.unit.UnitItem.{UnitItem}
use Rattle.sv_ast.specs.declared.unit.UnitItem.TheVariants as item
use Rattle.sv_ast.specs.declared.unit.FileConst.{FileConst}

abbrev pub file_const_tree : FileConst → Tree
file_const_tree c =
    node (extent c.span c.place) (type_tree c.of_type ⊗ unit ⊗ name c.name ⊗ unit ⊗ expr_tree c.value ⊗ unit)

abbrev pub unit_item_tree : UnitItem → Tree
unit_item_tree (item.Pragma n) = nth 0 (name n ⊗ unit)
unit_item_tree (item.Contract c) = nth 1 (contract_tree c)
unit_item_tree (item.Struct s) = nth 2 (struct_tree s)
unit_item_tree (item.Enum e) = nth 3 (enum_tree e)
unit_item_tree (item.Event e) = nth 4 (event_tree e)
unit_item_tree (item.Error e) = nth 5 (error_tree e)
unit_item_tree (item.FileConst c) = last 6 (file_const_tree c)

abbrev pub unit_tree : UnitNode → Tree
unit_tree u = node (extent u.span u.place) (list_tree (map unit_item_tree u.items))
