-- Believed: the nodes of an annotation and of a statement that ends with `;`, each once; what a part knows is what is declared before it, so the value of a declaration and of a tuple comes first. Hold it against `src/simple.rt` and `src/note.rt` of `sv_ast`.
use Rattle.std.specs.Prelude.{List, [], ◌∷◌, Option, Some, None}
use Rattle.sv_ast.specs.declared.note.Note.{Note}
use Rattle.sv_ast.specs.declared.expr.Expr.{Expr as ExprNode}
use Rattle.sv_ast.specs.declared.simple.Simple.{Simple}
use Rattle.sv_ast.specs.declared.simple.SimpleKind.{SimpleKind}
use Rattle.sv_ast.specs.declared.simple.SimpleKind.TheVariants as simple
use Rattle.sv_ast.specs.declared.simple.Returned.{Returned}
use Rattle.sv_ast.specs.declared.simple.Returned.TheVariants as returned
use Rattle.sv_ast.specs.declared.simple.Decl.{Decl}
use Rattle.sv_ast.specs.declared.simple.Slot.{Slot}
use Rattle.sv_ast.specs.declared.simple.SlotKind.{SlotKind}
use Rattle.sv_ast.specs.declared.simple.SlotKind.TheVariants as slot
use Rattle.sv_ast.specs.declared.simple.Action.{Action}
use Rattle.sv_ast.specs.declared.simple.ActionKind.{ActionKind}
use Rattle.sv_ast.specs.declared.simple.ActionKind.TheVariants as action
use Rattle.sv_ast.specs.declared.simple.Assignment.{Assignment}
use Rattle.sv_ast.specs.declared.stmt.ForStart.{ForStart}
use Rattle.sv_ast.specs.declared.stmt.ForStart.TheVariants as start
use Rattle.sv_plain.specs.ExprFolds.{plain_expr, plain_type_expr, plain_args}
use Rattle.sv_book.specs.Walks.{Walk, Walks, Node, Group, End, Part}
use Rattle.sv_visit.specs.declared.judge.Role.TheVariants as role
use Rattle.sv_visit.specs.Sites.{Site, Annotation, Acting, Declaring, Filling, Simply, Bare}
use Rattle.sv_visit.specs.ExprSites.{expr_walk, type_walk, args_walk}
use Rattle.sv_visit_simple.specs.declared.judge.SimpleNode.{SimpleNode}
use Rattle.sv_visit_simple.specs.declared.judge.SimpleNode.TheVariants as node

-- the node that a call of a judge speaks of
abbrev pub simple_site : SimpleNode → Site
simple_site (node.Note n) = Annotation n.now
simple_site (node.Action a) = Acting a.now
simple_site (node.Decl d) = Declaring d.now
simple_site (node.Slot s) = Filling s.now
simple_site (node.Simple s) = Simply s.now
simple_site (node.Bare s) = Bare s.now

-- ---- what ends with `;`, and annotations

abbrev pub inner_walk : ExprNode → Walk Site
inner_walk e = expr_walk role.Inner (plain_expr e)

abbrev pub optional_parts : Option ExprNode → Walks Site
optional_parts None = End
optional_parts (Some e) = Part (inner_walk e) End

abbrev pub all_parts : List ExprNode → Walks Site
all_parts [] = End
all_parts (e ∷ es) = Part (inner_walk e) (all_parts es)

abbrev pub note_walk : Note → Walk Site
note_walk n = Node (Annotation n) (Part (inner_walk n.expr) End)

abbrev pub notes_parts : List Note → Walks Site
notes_parts [] = End
notes_parts (n ∷ ns) = Part (note_walk n) (notes_parts ns)

abbrev pub decl_parts : Decl → Walks Site
decl_parts d = Part (type_walk (plain_type_expr d.of_type)) (optional_parts d.value)

abbrev pub decl_walk : Decl → Walk Site
decl_walk d = Node (Declaring d) (decl_parts d)

-- an expression alone is a statement; the target of an assignment isn't
abbrev pub assigned_parts : ExprNode → Option Assignment → Walks Site
assigned_parts e None = Part (expr_walk role.Statement (plain_expr e)) End
assigned_parts e (Some a) = Part (inner_walk e) (Part (inner_walk a.value) End)

abbrev pub action_parts : ActionKind → Walks Site
action_parts (action.Delete e) = Part (inner_walk e) End
action_parts (action.Expr e a) = assigned_parts e a

abbrev pub action_walk : Action → Walk Site
action_walk a = Node (Acting a) (action_parts a.kind)

abbrev pub optional_action : Option Action → Walk Site
optional_action None = Group End
optional_action (Some a) = action_walk a

abbrev pub start_walk : Option ForStart → Walk Site
start_walk None = Group End
start_walk (Some (start.Decl d)) = decl_walk d
start_walk (Some (start.Action a)) = action_walk a

abbrev pub slot_parts : Option SlotKind → Walks Site
slot_parts None = End
slot_parts (Some (slot.Decl t l n)) = Part (type_walk (plain_type_expr t)) End
slot_parts (Some (slot.Name n)) = End

abbrev pub slot_walk : Slot → Walk Site
slot_walk s = Node (Filling s) (slot_parts s.kind)

abbrev pub slots_parts : List Slot → Walks Site
slots_parts [] = End
slots_parts (s ∷ ss) = Part (slot_walk s) (slots_parts ss)

abbrev pub returned_parts : Option Returned → Walks Site
returned_parts None = End
returned_parts (Some (returned.One e)) = Part (inner_walk e) End
returned_parts (Some (returned.Many es)) = all_parts es

abbrev pub simple_parts : SimpleKind → Walks Site
simple_parts (simple.Decl d) = Part (decl_walk d) End
simple_parts (simple.Tuple t) = Part (inner_walk t.value) (slots_parts t.slots)
simple_parts (simple.Action a) = Part (action_walk a) End
simple_parts (simple.Return r) = returned_parts r.values
simple_parts simple.Break = End
simple_parts simple.Continue = End
simple_parts simple.Rest = End
simple_parts (simple.Emit n args) = Part (args_walk (plain_args args)) End
simple_parts (simple.Revert n args) = Part (args_walk (plain_args args)) End

abbrev pub simple_walk : Simple → Walk Site
simple_walk s = Node (Simply s) (simple_parts s.kind)

abbrev pub bare_walk : Simple → Walk Site
bare_walk s = Node (Bare s) (Part (simple_walk s) End)
