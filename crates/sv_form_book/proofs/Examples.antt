-- Texts of the kind that the rules speak of, as walks, worked out by hand.
use Rattle.std.proofs.Common.{ℕ, ◌≡◌, Bool, true, false, Option, Some, None, List, [], ◌∷◌, refl}
use Rattle.std.specs.Prelude.{codes}
use Rattle.sv_text.specs.declared.span.Span.{Span}
use Rattle.sv_text.specs.declared.place.Place.{Place}
use Rattle.sv_ast.specs.declared.note.Note.{Note}
use Rattle.sv_ast.specs.declared.expr.Expr.{Expr as ExprNode}
use Rattle.sv_ast.specs.declared.simple.Simple.{Simple}
use Rattle.sv_ast.specs.declared.simple.SimpleKind.{SimpleKind}
use Rattle.sv_ast.specs.declared.simple.SimpleKind.TheVariants as simple
use Rattle.sv_ast.specs.declared.stmt.Block.{Block as BlockNode}
use Rattle.sv_ast.specs.declared.stmt.Keyword.{Keyword}
use Rattle.sv_ast.specs.declared.contract.Contract.{Contract}
use Rattle.sv_ast.specs.declared.contract.ContractKind.TheVariants as kind
use Rattle.sv_ast.specs.declared.contract.Function.{Function}
use Rattle.sv_ast.specs.declared.contract.Ctor.{Ctor}
use Rattle.sv_ast.specs.declared.contract.Modifier.{Modifier}
use Rattle.sv_ast.specs.declared.contract.Head.{Head}
use Rattle.sv_ast.specs.declared.contract.HeadKind.{HeadKind}
use Rattle.sv_ast.specs.declared.contract.HeadKind.TheVariants as head
use Rattle.sv_ast.specs.declared.contract.Bases.{Bases}
use Rattle.sv_ast.specs.declared.contract.Base.{Base}
use Rattle.sv_ast.specs.declared.contract.Params.{Params}
use Rattle.sv_ast.specs.declared.unit.Unit.{Unit as Text}
use Rattle.sv_ast.specs.declared.unit.UnitItem.{UnitItem}
use Rattle.sv_ast.specs.declared.unit.UnitItem.TheVariants as item
use Rattle.sv_plain.specs.declared.spot.Spot.{Spot}
use Rattle.sv_plain.specs.PlainExprs.{Expr}
use Rattle.sv_plain.specs.PlainStmts.{Stmt, Stated, While, Unchecked, Block, Braces, NoStmt, Body}
use Rattle.sv_book.specs.Walks.{Walk, Walks, Node, End, Part}
use Rattle.sv_book.specs.Visits.{visit, begun}
use Rattle.sv_rule.specs.declared.fault.Rule.{Rule}
use Rattle.sv_rule.specs.declared.fault.Rule.TheVariants as rule
use Rattle.sv_rule.specs.declared.fault.Fault.{Fault}
use Rattle.sv_visit.specs.Sites.{Site, Annotation, Simply, Stating, Bracing, OfText, OfContract, OfFunction, OfConstructor, OfModifier, OfHead}
use Rattle.sv_form_book.specs.FormKnown.{nothing_around}
use Rattle.sv_form_book.specs.FormBases.{has_base}
use Rattle.sv_form_book.specs.FormRules.{forms_book}

abbrev at : ℕ → ℕ → Place
at line col = record { line = line; col = col }

abbrev spot : ℕ → ℕ → Spot
spot line col = record { span = record { from = 0; to = 0 }; place = at line col }

abbrev fault : Rule → ℕ → ℕ → Option Fault
fault r line col = Some (record { rule = r; place = at line col })

abbrev names : List (List ℕ)
names = codes "invariant" ∷ codes "precondition" ∷ codes "postcondition" ∷ []

-- what the group answers of a walk
abbrev answer : Walk Site → Option Fault
answer w = (visit forms_book w (begun (nothing_around names []))).least

abbrev alone : Site → Walk Site
alone s = Node s End

abbrev pair : Walk Site → Walk Site → Walks Site
pair a b = Part a (Part b End)

abbrev just : Walk Site → Walks Site
just a = Part a End

abbrev simple_at : SimpleKind → ℕ → ℕ → Walk Site
simple_at k line col = alone (Simply (record { kind = k; span = record { from = 0; to = 0 }; place = at line col }))

abbrev block : ℕ → ℕ → Walks Site → Walk Site
block line col parts = Node (Bracing (Braces (spot line col) NoStmt)) parts

abbrev loop : Expr → Body → Keyword → Walks Site → Walk Site
loop e b k parts = Node (Stating (Stated (spot 1 50) (While [] k e b))) parts

-- `modifier m() { .. }` at 1:14
abbrev modifier : BlockNode → Walks Site → Walk Site
modifier b parts = Node (OfModifier (record { name = 0; params = None; words = []; body = b; span = record { from = 0; to = 0 }; place = at 1 14 })) parts

abbrev head_at : HeadKind → ℕ → ℕ → Walk Site
head_at k line col = alone (OfHead (record { kind = k; span = record { from = 0; to = 0 }; place = at line col }))

abbrev no_params : Params
no_params = record { params = []; span = record { from = 0; to = 0 }; place = at 1 1 }

-- `function f() ..` at 1:14
abbrev function : Option BlockNode → Walks Site → Walk Site
function b parts = Node (OfFunction (record { notes = []; name = 0; params = no_params; heads = []; results = None; body = b; span = record { from = 0; to = 0 }; place = at 1 14 })) parts

abbrev bases : List Base → Bases
bases list = record { bases = list; span = record { from = 0; to = 0 }; place = at 1 1 }

abbrev interface : Walks Site → Walk Site
interface parts = Node (OfContract (record { kind = kind.Interface 5 (bases []) []; span = record { from = 0; to = 0 }; place = at 1 1 })) parts

abbrev contract : Walks Site → Walk Site
contract parts = Node (OfContract (record { kind = kind.Contract [] false 5 (bases []) []; span = record { from = 0; to = 0 }; place = at 1 1 })) parts

-- ---- the text: nothing in it

empty : answer (alone (OfText (record { items = []; span = record { from = 0; to = 0 }; place = at 3 7 }))) ≡ fault rule.NoContract 1 1
empty = refl

-- ---- `unchecked { unchecked { } }`

unchecked : (b : Block) → answer (Node (Stating (Stated (spot 1 36) (Unchecked b))) (just (block 1 46 (just (Node (Stating (Stated (spot 1 48) (Unchecked b))) (just (block 1 58 End))))))) ≡ fault rule.Unchecked 1 48
unchecked b = refl

-- ---- placeholders: `modifier m() { _; _; }`, `{ _; }`, `{ }`, `{ while (e) _; }`; and in a function

two_rests : (b : BlockNode) → answer (modifier b (just (block 1 27 (pair (simple_at simple.Rest 1 29) (simple_at simple.Rest 1 32))))) ≡ fault rule.Placeholder 1 14
two_rests b = refl

one_rest : (b : BlockNode) → answer (modifier b (just (block 1 27 (just (simple_at simple.Rest 1 29))))) ≡ None
one_rest b = refl

no_rest : (b : BlockNode) → answer (modifier b (just (block 1 27 End))) ≡ fault rule.Placeholder 1 14
no_rest b = refl

rest_in_a_loop : (b : BlockNode) (e : Expr) (c : Body) (k : Keyword) → answer (modifier b (just (block 1 27 (just (loop e c k (just (simple_at simple.Rest 1 60))))))) ≡ fault rule.Placeholder 1 60
rest_in_a_loop b e c k = refl

rest_in_a_function : (b : BlockNode) → answer (function (Some b) (pair (head_at head.Public 1 27) (block 1 34 (just (simple_at simple.Rest 1 36))))) ≡ fault rule.Placeholder 1 36
rest_in_a_function b = refl

-- the `_` of a second modifier are counted anew
two_modifiers : (b : BlockNode) → answer (contract (pair (modifier b (just (block 1 27 (just (simple_at simple.Rest 1 29))))) (modifier b (just (block 1 47 (just (simple_at simple.Rest 1 49))))))) ≡ None
two_modifiers b = refl

-- ---- `break` in a function, in a loop, behind an inner loop, behind the loop

jump : answer (block 1 34 (just (simple_at simple.Break 1 36))) ≡ fault rule.Jump 1 36
jump = refl

jump_in_a_loop : (e : Expr) (c : Body) (k : Keyword) → answer (loop e c k (pair (loop e c k End) (simple_at simple.Continue 1 70))) ≡ None
jump_in_a_loop e c k = refl

jump_behind_a_loop : (e : Expr) (c : Body) (k : Keyword) → answer (block 1 34 (pair (loop e c k End) (simple_at simple.Break 1 70))) ≡ fault rule.Jump 1 70
jump_behind_a_loop e c k = refl

-- ---- words: `function f() public private { }`, `function f() { }`, `function f() public;`, `function f() public virtual;`

two_words : (b : BlockNode) → answer (function (Some b) (pair (head_at head.Public 1 27) (head_at head.Private 1 34))) ≡ fault rule.Head 1 34
two_words b = refl

no_visibility : (b : BlockNode) → answer (function (Some b) (just (block 1 27 End))) ≡ fault rule.Head 1 14
no_visibility b = refl

no_body : answer (contract (just (function None (just (head_at head.Public 1 27))))) ≡ fault rule.Head 1 14
no_body = refl

virtual : answer (contract (just (function None (pair (head_at head.Public 1 27) (head_at head.Virtual 1 34))))) ≡ None
virtual = refl

-- the words of a second function are its own
two_functions : (b : BlockNode) → answer (contract (pair (function (Some b) (just (head_at head.Public 1 27))) (function (Some b) (just (head_at head.Private 1 57))))) ≡ None
two_functions b = refl

-- ---- interfaces: a function without a body, one with a body whose block holds a block

body_in_an_interface : (b : BlockNode) → answer (interface (just (function (Some b) (pair (head_at head.External 1 28) (block 1 37 (just (block 1 39 End))))))) ≡ fault rule.Head 1 37
body_in_an_interface b = refl

function_of_an_interface : answer (interface (just (function None (just (head_at head.External 1 28))))) ≡ None
function_of_an_interface = refl

-- ---- bases: `contract 3 is 2`, `contract 2 is 1`, `contract 1 is 1`

abbrev is : ℕ → ℕ → UnitItem
is c b = item.Contract (record { kind = kind.Contract [] false c (bases (record { name = b; args = None; span = record { from = 0; to = 0 }; place = at 1 1 } ∷ [])) []; span = record { from = 0; to = 0 }; place = at 1 1 })

direct : has_base 3 (is 1 1 ∷ is 2 1 ∷ is 3 2 ∷ []) 2 3 ≡ true
direct = refl

indirect : has_base 3 (is 1 1 ∷ is 2 1 ∷ is 3 2 ∷ []) 1 3 ≡ true
indirect = refl

other : has_base 3 (is 1 1 ∷ is 2 1 ∷ is 3 2 ∷ []) 3 2 ≡ false
other = refl
