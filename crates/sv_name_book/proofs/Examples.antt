-- Names in small pieces of text, worked out by hand. The names `a`, `precondition`, `postcondition` and `__verifier_old_uint` are 0 to 3.
use Rattle.std.proofs.Common.{ℕ, ◌≡◌, [], ◌∷◌, refl, Option, Some, None, List}
use Rattle.std.specs.Prelude.{codes}
use Rattle.sv_text.specs.declared.span.Span.{Span}
use Rattle.sv_text.specs.declared.place.Place.{Place}
use Rattle.sv_ast.specs.declared.expr.Expr.{Expr as ExprNode}
use Rattle.sv_ast.specs.declared.types.TypeExpr.{TypeExpr}
use Rattle.sv_ast.specs.declared.note.Note.{Note}
use Rattle.sv_ast.specs.declared.simple.Decl.{Decl}
use Rattle.sv_ast.specs.declared.contract.Function.{Function}
use Rattle.sv_ast.specs.declared.contract.Param.{Param}
use Rattle.sv_ast.specs.declared.contract.Params.{Params}
use Rattle.sv_plain.specs.declared.spot.Spot.{Spot}
use Rattle.sv_plain.specs.PlainExprs.{Node as ExprOf, Name, Applied, Args, Suffixed, MoreSuffixes, NoSuffix, Call}
use Rattle.sv_plain.specs.PlainStmts.{Block}
use Rattle.sv_book.specs.Walks.{Walk, Walks, Node, Group, End, Part}
use Rattle.sv_book.specs.Books.{behind_in}
use Rattle.sv_book.specs.Visits.{visit_in, begun}
use Rattle.sv_rule.specs.declared.fault.Fault.{Fault}
use Rattle.sv_rule.specs.declared.fault.Rule.TheVariants as rule
use Rattle.sv_visit.specs.declared.judge.Role.TheVariants as role
use Rattle.sv_visit.specs.Sites.{Site, Expression, Annotation, Declaring, Bracing, OfFunction, OfParam}
use Rattle.sv_target.specs.declared.target.Target.TheVariants as means
use Rattle.sv_naming.specs.declared.naming.Bind.{Bind}
use Rattle.sv_naming.specs.NamesKnown.{Known, nothing_known}
use Rattle.sv_name_book.specs.NameBook.{names_book}

abbrev before : Known
before = nothing_known (codes "a" ∷ codes "precondition" ∷ codes "postcondition" ∷ codes "__verifier_old_uint" ∷ []) (record { contracts = []; outside = [] }) []

-- the node that counts
abbrev unknown_in : Walks Site → Option Fault
unknown_in ws = (visit_in names_book ws (begun before)).least

abbrev binds_of : Walks Site → List Bind
binds_of ws = (behind_in names_book before ws).binds

abbrev unknown_at : Spot → Option Fault
unknown_at at = Some (record { rule = rule.Unknown; place = at.place })

abbrev one_bind : Spot → ℕ → List Bind
one_bind at n = record { use_at = at.span; to = means.Local n } ∷ []

-- `a`
abbrev use_of_a : Spot → Walk Site
use_of_a at = Node (Expression role.Inner at (Name 0)) End

-- `uint256 a`, and its value
abbrev decl_of_a : TypeExpr → Spot → Walks Site → Walk Site
decl_of_a t at value = Node (Declaring (record { of_type = t; location = None; name = 0; value = None; span = at.span; place = at.place })) value

-- uint256 a = a;
its_own_value : (t : TypeExpr) (at of_value : Spot) → unknown_in (Part (decl_of_a t at (Part (use_of_a of_value) End)) End) ≡ unknown_at of_value
its_own_value t at of_value = refl

-- uint256 a; a;
behind_it : (t : TypeExpr) (at of_use : Spot) → unknown_in (Part (decl_of_a t at End) (Part (use_of_a of_use) End)) ≡ None
behind_it t at of_use = refl

what_it_means : (t : TypeExpr) (at of_use : Spot) → binds_of (Part (decl_of_a t at End) (Part (use_of_a of_use) End)) ≡ one_bind of_use 0
what_it_means t at of_use = refl

-- { uint256 a; } a;
behind_a_block : (t : TypeExpr) (b : Block) (at of_use : Spot) → unknown_in (Part (Node (Bracing b) (Part (decl_of_a t at End) End)) (Part (use_of_a of_use) End)) ≡ unknown_at of_use
behind_a_block t b at of_use = refl

-- uint256 a; { uint256 a; a; }
the_inner_one : (t : TypeExpr) (b : Block) (at of_use : Spot) → binds_of (Part (decl_of_a t at End) (Part (Node (Bracing b) (Part (decl_of_a t at End) (Part (use_of_a of_use) End))) End)) ≡ one_bind of_use 1
the_inner_one t b at of_use = refl

-- ---- function f() returns (uint256 a), with an annotation of this word

abbrev function : Spot → Function
function at = record { notes = []; name = 9; params = record { params = []; span = at.span; place = at.place }; heads = []; results = None; body = None; span = at.span; place = at.place }

abbrev result_a : TypeExpr → Spot → Param
result_a t at = record { of_type = t; location = None; name = Some 0; span = at.span; place = at.place }

abbrev note : ExprNode → ℕ → Spot → Note
note e word at = record { word = word; expr = e; span = at.span; place = at.place }

abbrev annotated : TypeExpr → ExprNode → ℕ → Spot → Walk Site → Walks Site
annotated t e word at w = Part (Node (OfFunction (function at)) (Part (Node (OfParam (result_a t at)) End) (Part (Node (Annotation (note e word at)) (Part w End)) End))) End

at_the_entry : (t : TypeExpr) (e : ExprNode) (at of_use : Spot) → unknown_in (annotated t e 1 at (use_of_a of_use)) ≡ unknown_at of_use
at_the_entry t e at of_use = refl

at_the_end : (t : TypeExpr) (e : ExprNode) (at of_use : Spot) → unknown_in (annotated t e 2 at (use_of_a of_use)) ≡ None
at_the_end t e at of_use = refl

-- `__verifier_old_uint(a)` in a postcondition
within_old : (t : TypeExpr) (e : ExprNode) (args : Args) (at of_use : Spot)
    → unknown_in (annotated t e 2 at (Node (Expression role.Inner at (Applied (ExprOf at (Name 3)) (MoreSuffixes (Suffixed at (Call args)) NoSuffix))) (Part (use_of_a of_use) End))) ≡ unknown_at of_use
within_old t e args at of_use = refl
