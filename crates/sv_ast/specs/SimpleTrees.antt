-- Believed: the trees of annotations, and of statements that end with `;`. Hold it against the types of `src/simple.rt`, and docs/grammar.md.
use Rattle.std.specs.Prelude.{List, [], ◌∷◌, map}
use Rattle.sv_grammar.specs.Grammar.{Tree, unit, name, node}
use Rattle.sv_ast.specs.Trees.{extent, ◌⊗◌, nth, last, optional, commas}
use Rattle.sv_ast.specs.ExprTrees.{expr_tree, type_tree, args_tree}
use Rattle.sv_ast.specs.declared.note.Note.{Note}
use Rattle.sv_ast.specs.declared.types.Where.{Where}
use Rattle.sv_ast.specs.declared.types.WhereKind.{WhereKind}
use Rattle.sv_ast.specs.declared.types.WhereKind.TheVariants as where_kind
use Rattle.sv_ast.specs.declared.simple.Simple.{Simple}
use Rattle.sv_ast.specs.declared.simple.SimpleKind.{SimpleKind}
use Rattle.sv_ast.specs.declared.simple.SimpleKind.TheVariants as simple_kind
use Rattle.sv_ast.specs.declared.simple.Return.{Return}
use Rattle.sv_ast.specs.declared.simple.Returned.{Returned}
use Rattle.sv_ast.specs.declared.simple.Returned.TheVariants.{One, Many}
use Rattle.sv_ast.specs.declared.simple.Decl.{Decl}
use Rattle.sv_ast.specs.declared.simple.Tuple.{Tuple}
use Rattle.sv_ast.specs.declared.simple.Slot.{Slot}
use Rattle.sv_ast.specs.declared.simple.SlotKind.{SlotKind}
use Rattle.sv_ast.specs.declared.simple.SlotKind.TheVariants as slot_kind
use Rattle.sv_ast.specs.declared.simple.Action.{Action}
use Rattle.sv_ast.specs.declared.simple.ActionKind.{ActionKind}
use Rattle.sv_ast.specs.declared.simple.ActionKind.TheVariants as action_kind
use Rattle.sv_ast.specs.declared.simple.Assignment.{Assignment}
use Rattle.sv_ast.specs.declared.simple.AssignOp.{AssignOp}
use Rattle.sv_ast.specs.declared.simple.AssignOpKind.{AssignOpKind}
use Rattle.sv_ast.specs.declared.simple.AssignOpKind.TheVariants as assign_op_kind

abbrev pub note_tree : Note → Tree
note_tree n = node (extent n.span n.place) (name n.word ⊗ expr_tree n.expr ⊗ unit)

abbrev pub location_kind_tree : WhereKind → Tree
location_kind_tree where_kind.Storage = nth 0 unit
location_kind_tree where_kind.Memory = nth 1 unit
location_kind_tree where_kind.Calldata = last 2 unit

abbrev pub location_tree : Where → Tree
location_tree w = node (extent w.span w.place) (location_kind_tree w.kind)

abbrev pub assign_op_kind_tree : AssignOpKind → Tree
assign_op_kind_tree assign_op_kind.Set = nth 0 unit
assign_op_kind_tree assign_op_kind.Add = nth 1 unit
assign_op_kind_tree assign_op_kind.Subtract = nth 2 unit
assign_op_kind_tree assign_op_kind.Multiply = nth 3 unit
assign_op_kind_tree assign_op_kind.Divide = nth 4 unit
assign_op_kind_tree assign_op_kind.Remainder = last 5 unit

abbrev pub assign_op_tree : AssignOp → Tree
assign_op_tree o = node (extent o.span o.place) (assign_op_kind_tree o.kind)

abbrev pub assignment_tree : Assignment → Tree
assignment_tree a = assign_op_tree a.op ⊗ expr_tree a.value

abbrev pub action_kind_tree : ActionKind → Tree
action_kind_tree (action_kind.Delete e) = nth 0 (unit ⊗ expr_tree e)
action_kind_tree (action_kind.Expr target assignment) = last 1 (expr_tree target ⊗ optional assignment_tree assignment)

abbrev pub action_tree : Action → Tree
action_tree a = node (extent a.span a.place) (action_kind_tree a.kind)

abbrev pub decl_tree : Decl → Tree
decl_tree d =
    node (extent d.span d.place)
    (type_tree d.of_type ⊗ optional location_tree d.location ⊗ name d.name ⊗ optional (λ e. unit ⊗ expr_tree e) d.value)

abbrev pub slot_kind_tree : SlotKind → Tree
slot_kind_tree (slot_kind.Decl of_type location n) = nth 0 (type_tree of_type ⊗ optional location_tree location ⊗ name n)
slot_kind_tree (slot_kind.Name n) = last 1 (name n)

abbrev pub slot_tree : Slot → Tree
slot_tree s = node (extent s.span s.place) (optional slot_kind_tree s.kind)

-- two or more, with commas between, and then another tree; of none there is no tree
abbrev pub two_or_more : List Tree → Tree → Tree
two_or_more [] after = unit
two_or_more (t ∷ ts) after = t ⊗ unit ⊗ commas ts ⊗ after

abbrev pub tuple_tree : Tuple → Tree
tuple_tree t = node (extent t.span t.place) (unit ⊗ two_or_more (map slot_tree t.slots) (unit ⊗ unit ⊗ expr_tree t.value))

abbrev pub returned_tree : Returned → Tree
returned_tree (One e) = nth 0 (expr_tree e)
returned_tree (Many es) = last 1 (unit ⊗ two_or_more (map expr_tree es) unit)

abbrev pub return_tree : Return → Tree
return_tree r = node (extent r.span r.place) (unit ⊗ optional returned_tree r.values)

abbrev pub simple_kind_tree : SimpleKind → Tree
simple_kind_tree (simple_kind.Decl d) = nth 0 (decl_tree d)
simple_kind_tree (simple_kind.Tuple t) = nth 1 (tuple_tree t)
simple_kind_tree (simple_kind.Action a) = nth 2 (action_tree a)
simple_kind_tree (simple_kind.Return r) = nth 3 (return_tree r)
simple_kind_tree simple_kind.Break = nth 4 unit
simple_kind_tree simple_kind.Continue = nth 5 unit
simple_kind_tree simple_kind.Rest = nth 6 unit
simple_kind_tree (simple_kind.Emit event args) = nth 7 (unit ⊗ name event ⊗ args_tree args)
simple_kind_tree (simple_kind.Revert error args) = last 8 (unit ⊗ name error ⊗ args_tree args)

abbrev pub simple_tree : Simple → Tree
simple_tree s = node (extent s.span s.place) (simple_kind_tree s.kind)
