-- Believed: which names each node of a text uses, and as what. Hold it against docs/grammar.md: an `id` that declares nothing and is no member, no field and no named argument.
use Rattle.std.specs.Prelude.{ℕ, Bool, true, false, Option, Some, None, List, [], ◌∷◌}
use Rattle.sv_text.specs.declared.span.Span.{Span}
use Rattle.sv_ast.specs.declared.contract.HeadKind.{HeadKind}
use Rattle.sv_ast.specs.declared.contract.HeadKind.TheVariants as head
use Rattle.sv_ast.specs.declared.simple.SimpleKind.{SimpleKind}
use Rattle.sv_ast.specs.declared.simple.SimpleKind.TheVariants as simple
use Rattle.sv_ast.specs.declared.simple.SlotKind.{SlotKind}
use Rattle.sv_ast.specs.declared.simple.SlotKind.TheVariants as slot
use Rattle.sv_plain.specs.PlainExprs.{Kind, Name, PlainForm, Simply as PlainType, PlainKind, NamedType}
use Rattle.sv_visit.specs.Sites.{Site, Expression, PlainUse, Filling, Simply, OfBase, OfHead}
use Rattle.sv_seen.specs.declared.wanted.Wanted.{Wanted}
use Rattle.sv_seen.specs.declared.wanted.Wanted.TheVariants as wanted
use Rattle.sv_name_book.specs.declared.uses.TypeNames.{TypeNames}
use Rattle.sv_name_book.specs.declared.uses.Use.{Use}

-- at the bytes of the smallest node around the name
abbrev pub use_of : Wanted → ℕ → Span → Option Use
use_of w n at = Some (record { wanted = w; name = n; at = at })

-- ---- by kinds of nodes

abbrev pub expr_use : Span → Kind → Option Use
expr_use at (Name n) = use_of wanted.Operand n at
expr_use at k = None

abbrev pub named_use : Span → ℕ → Option ℕ → Option Use
named_use at n None = use_of wanted.Type n at
named_use at n (Some m) = use_of wanted.Contract n at

-- a type `S`, or `C.S`
abbrev pub type_use : Span → PlainKind → Option Use
type_use at (NamedType n member) = named_use at n member
type_use at k = None

abbrev pub plain_use : PlainForm → Option Use
plain_use (PlainType at kind) = type_use at.span kind

-- a slot of a tuple that names a variable
abbrev pub slot_use : Span → Option SlotKind → Option Use
slot_use at (Some (slot.Name n)) = use_of wanted.Operand n at
slot_use at s = None

abbrev pub simple_use : Span → SimpleKind → Option Use
simple_use at (simple.Emit event args) = use_of wanted.Event event at
simple_use at (simple.Revert error args) = use_of wanted.Error error at
simple_use at s = None

-- behind a constructor stand bases
abbrev pub head_wanted : Bool → Wanted
head_wanted true = wanted.Base
head_wanted false = wanted.Modifier

abbrev pub head_use : Bool → Span → HeadKind → Option Use
head_use in_constructor at (head.Use n args) = use_of (head_wanted in_constructor) n at
head_use in_constructor at h = None

-- ---- of any node, in a constructor or not

abbrev pub use_at : Bool → Site → Option Use
use_at in_constructor (Expression role at kind) = expr_use at.span kind
use_at in_constructor (PlainUse p) = plain_use p
use_at in_constructor (Filling s) = slot_use s.span s.kind
use_at in_constructor (Simply s) = simple_use s.span s.kind
use_at in_constructor (OfBase b) = use_of wanted.Base b.name b.span
use_at in_constructor (OfHead h) = head_use in_constructor h.span h.kind
use_at in_constructor s = None

-- ---- of a type `C.S` both names

abbrev pub both_names : ℕ → Option ℕ → Option TypeNames
both_names n None = None
both_names n (Some m) = Some (record { contract = n; member = m })

abbrev pub kind_names : PlainKind → Option TypeNames
kind_names (NamedType n member) = both_names n member
kind_names k = None

abbrev pub plain_names : PlainForm → Option TypeNames
plain_names (PlainType at kind) = kind_names kind
