-- Believed: the nodes of a whole text, each once: a contract with its annotations, its bases and its declarations. Hold it against `src/unit.rt` and `src/contract.rt` of `sv_ast`.
use Rattle.std.specs.Prelude.{List, [], ◌∷◌}
use Rattle.sv_ast.specs.declared.contract.Base.{Base}
use Rattle.sv_ast.specs.declared.contract.Contract.{Contract}
use Rattle.sv_ast.specs.declared.contract.ContractKind.{ContractKind}
use Rattle.sv_ast.specs.declared.contract.ContractKind.TheVariants as kind
use Rattle.sv_ast.specs.declared.unit.FileConst.{FileConst}
use Rattle.sv_ast.specs.declared.unit.Unit.{Unit as Text}
use Rattle.sv_ast.specs.declared.unit.UnitItem.{UnitItem}
use Rattle.sv_ast.specs.declared.unit.UnitItem.TheVariants as item
use Rattle.sv_plain.specs.ExprFolds.{plain_type_expr}
use Rattle.sv_book.specs.Walks.{Walk, Walks, Node, Group, End, Part}
use Rattle.sv_visit.specs.Sites.{Site, OfText, OfConstant, OfContract, OfBase}
use Rattle.sv_visit.specs.ExprSites.{type_walk}
use Rattle.sv_visit_simple.specs.SimpleSites.{inner_walk, notes_parts}
use Rattle.sv_visit_decl.specs.DeclSites.{optional_args, struct_walk, enum_walk, event_walk, error_walk, parts_parts}
use Rattle.sv_visit_unit.specs.declared.judge.UnitNode.{UnitNode}
use Rattle.sv_visit_unit.specs.declared.judge.UnitNode.TheVariants as node

-- the node that a call of a judge speaks of
abbrev pub unit_site : UnitNode → Site
unit_site (node.Text u) = OfText u.now
unit_site (node.Constant c) = OfConstant c.now
unit_site (node.Contract c) = OfContract c.now
unit_site (node.Base b) = OfBase b.now

-- ---- contracts

abbrev pub base_walk : Base → Walk Site
base_walk b = Node (OfBase b) (optional_args b.args)

abbrev pub bases_parts : List Base → Walks Site
bases_parts [] = End
bases_parts (b ∷ bs) = Part (base_walk b) (bases_parts bs)

abbrev pub contract_parts : ContractKind → Walks Site
contract_parts (kind.Contract notes is_abstract name bases parts) = Part (Group (notes_parts notes)) (Part (Group (bases_parts bases.bases)) (Part (Group (parts_parts parts)) End))
contract_parts (kind.Interface name bases parts) = Part (Group (bases_parts bases.bases)) (Part (Group (parts_parts parts)) End)

abbrev pub contract_walk : Contract → Walk Site
contract_walk c = Node (OfContract c) (contract_parts c.kind)

-- ---- the whole text

abbrev pub constant_walk : FileConst → Walk Site
constant_walk c = Node (OfConstant c) (Part (type_walk (plain_type_expr c.of_type)) (Part (inner_walk c.value) End))

-- a pragma is no node
abbrev pub item_walk : UnitItem → Walk Site
item_walk (item.Pragma n) = Group End
item_walk (item.Contract c) = contract_walk c
item_walk (item.Struct s) = struct_walk s
item_walk (item.Enum e) = enum_walk e
item_walk (item.Event e) = event_walk e
item_walk (item.Error e) = error_walk e
item_walk (item.FileConst c) = constant_walk c

abbrev pub items_parts : List UnitItem → Walks Site
items_parts [] = End
items_parts (i ∷ is) = Part (item_walk i) (items_parts is)

abbrev pub unit_walk : Text → Walk Site
unit_walk u = Node (OfText u) (items_parts u.items)
