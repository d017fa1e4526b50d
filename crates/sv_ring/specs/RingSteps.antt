-- Believed: which declarations a struct and a constant reach in one step. Hold it against the rule Cycle of docs/language.md, and docs/names.md, "What a contract sees" and "Rings".
use Rattle.std.specs.Prelude.{ℕ, ◌+◌, Bool, true, false, nat_eq, nat_lt, not, cond, ◌&&◌, Option, Some, None, List, [], ◌∷◌, ◌++◌, map, length, slice_get, slice_index_or}
use Rattle.std.specs.List.{filter_map, flat_map, list_any}
use Rattle.sv_text.specs.declared.span.Span.{Span}
use Rattle.sv_decl.specs.declared.data.Declaration.{Declaration}
use Rattle.sv_decl.specs.declared.data.DeclarationKind.{DeclarationKind}
use Rattle.sv_decl.specs.declared.data.DeclarationKind.TheVariants as kind
use Rattle.sv_decl.specs.declared.data.DeclaredContract.{DeclaredContract}
use Rattle.sv_decl.specs.declared.data.DeclaredText.{DeclaredText}
use Rattle.sv_decl.specs.declared.data.Member.{Member}
use Rattle.sv_decl.specs.declared.data.TypePiece.{TypePiece}
use Rattle.sv_decl.specs.declared.data.TypePiece.TheVariants as piece
use Rattle.sv_decl.specs.declared.data.Word.{Word}
use Rattle.sv_decl.specs.declared.data.Word.TheVariants as word
use Rattle.sv_member.specs.declared.seen.Hit.{Hit}
use Rattle.sv_member.specs.SeenNames.{declarations_of, has_name, seen_by}
use Rattle.sv_ring.specs.declared.scene.ConstantUse.{ConstantUse}
use Rattle.sv_ring.specs.declared.scene.Scene.{Scene}

-- ---- numbers: the declarations of all contracts in their order, then those outside

abbrev pub starts_from : ℕ → List DeclaredContract → List ℕ
starts_from n [] = n ∷ []
starts_from n (c ∷ cs) = n ∷ starts_from (n + length c.declarations) cs

-- the number of the first declaration of each contract, and last that of the first outside
abbrev pub starts_of : List DeclaredContract → List ℕ
starts_of contracts = starts_from 0 contracts

abbrev pub number : List ℕ → ℕ → ℕ → ℕ
number starts c at = slice_index_or starts c 0 + at

-- what a step is asked of
pub record Ground : Type 0 where
  pub text : DeclaredText
  pub starts : List ℕ
  -- of each contract the contracts whose names it sees, the most derived last
  pub lines : List (List ℕ)
  pub uses : List ConstantUse

abbrev pub ground : Scene → Ground
ground s = record { text = s.text.now; starts = s.starts.now; lines = s.lines.now; uses = s.uses.now }

-- ---- the struct that a name in a type means, by number

abbrev pub is_struct : DeclarationKind → Bool
is_struct (kind.Struct fields) = true
is_struct (kind.Variable of_type words value) = false
is_struct (kind.Callable s) = false
is_struct (kind.Enum names) = false
is_struct (kind.Event params) = false
is_struct (kind.Error params) = false

abbrev pub is_type : DeclarationKind → Bool
is_type (kind.Struct fields) = true
is_type (kind.Enum names) = true
is_type (kind.Variable of_type words value) = false
is_type (kind.Callable s) = false
is_type (kind.Event params) = false
is_type (kind.Error params) = false

-- none where it is another type
abbrev pub struct_number : ℕ → Declaration → Option ℕ
struct_number n d = cond (is_struct d.kind) (Some n) None

abbrev pub type_or : ℕ → Option ℕ → Option Declaration → Option ℕ
type_or n more None = more
type_or n more (Some d) = cond (is_type d.kind) (struct_number n d) more

abbrev pub declaration_at : List DeclaredContract → Hit → Option Declaration
declaration_at contracts h = slice_get (declarations_of contracts h.contract) h.at

-- the first type among what is seen
abbrev pub first_type : Ground → List Hit → Option ℕ
first_type g [] = None
first_type g (h ∷ hs) = type_or (number g.starts h.contract h.at) (first_type g hs) (declaration_at g.text.contracts h)

-- the first contract of the name, of contracts of which the first has this number
abbrev pub contract_from : ℕ → ℕ → List DeclaredContract → Option ℕ
contract_from name n [] = None
contract_from name n (c ∷ cs) = cond (nat_eq c.name name) (Some n) (contract_from name (n + 1) cs)

-- the first type of the name, among declarations of which the first has this number
abbrev pub type_from : ℕ → ℕ → List Declaration → Option ℕ
type_from name n [] = None
type_from name n (d ∷ ds) = cond (has_name name d && is_type d.kind) (struct_number n d) (type_from name (n + 1) ds)

-- outside of all contracts, where no contract has the name
abbrev pub outside_or : Ground → ℕ → Option ℕ → Option ℕ
outside_or g name None = type_from name (slice_index_or g.starts (length g.text.contracts) 0) g.text.outside
outside_or g name (Some c) = None

abbrev pub in_text : Ground → ℕ → Option ℕ
in_text g name = outside_or g name (contract_from name 0 g.text.contracts)

-- what a contract sees by the name; outside of all contracts nothing is seen so
abbrev pub seen : Ground → Option ℕ → ℕ → List Hit
seen g None name = []
seen g (Some c) name = seen_by g.text.contracts c name (slice_index_or g.lines c [])

abbrev pub first_or : Ground → ℕ → List Hit → Option ℕ
first_or g name [] = in_text g name
first_or g name (h ∷ hs) = first_type g (h ∷ hs)

-- `S`: what the contract sees hides what stands outside of all
abbrev pub named : Ground → Option ℕ → ℕ → Option ℕ
named g own name = first_or g name (seen g own name)

abbrev pub in_contract : Ground → Option ℕ → ℕ → Option ℕ
in_contract g c name = first_type g (seen g c name)

abbrev pub unless_seen : Ground → ℕ → ℕ → List Hit → Option ℕ
unless_seen g c name [] = in_contract g (contract_from c 0 g.text.contracts) name
unless_seen g c name (h ∷ hs) = None

-- `C.S`, where nothing that is seen hides the contract
abbrev pub member : Ground → Option ℕ → ℕ → ℕ → Option ℕ
member g own c name = unless_seen g c name (seen g own c)

abbrev pub meant : Ground → Option ℕ → TypePiece → Option ℕ
meant g own (piece.Named n) = named g own n
meant g own (piece.Member c n) = member g own c n
meant g own (piece.Elementary n) = None
meant g own (piece.Address is_payable) = None
meant g own piece.String = None
meant g own piece.Mapping = None
meant g own piece.Dynamic = None
meant g own (piece.Fixed length) = None

-- ---- steps

-- to the structs that the types of the fields name, whatever arrays and mappings are around
abbrev pub fields_reach : Ground → Option ℕ → List Member → List ℕ
fields_reach g own fields = flat_map (λ (m : Member). filter_map (meant g own) m.of_type) fields

abbrev pub is_constant_word : Word → Bool
is_constant_word word.Constant = true
is_constant_word word.Public = false
is_constant_word word.Private = false
is_constant_word word.Internal = false
is_constant_word word.External = false
is_constant_word word.Pure = false
is_constant_word word.View = false
is_constant_word word.Payable = false
is_constant_word word.Virtual = false
is_constant_word word.Override = false
is_constant_word word.Immutable = false

abbrev pub stands_in : Span → ConstantUse → Bool
stands_in span u = not (nat_lt u.at span.from) && nat_lt u.at span.to

abbrev pub used_in : Span → ConstantUse → Option ℕ
used_in span u = cond (stands_in span u) (Some u.constant) None

-- to the constants that the value names
abbrev pub value_reaches : Ground → Option Span → List ℕ
value_reaches g None = []
value_reaches g (Some span) = filter_map (used_in span) g.uses

-- of a declaration of this contract, or of one outside of all
abbrev pub steps_of_kind : Ground → Option ℕ → DeclarationKind → List ℕ
steps_of_kind g own (kind.Struct fields) = fields_reach g own fields
steps_of_kind g own (kind.Variable of_type words value) = cond (list_any is_constant_word words) (value_reaches g value) []
steps_of_kind g own (kind.Callable s) = []
steps_of_kind g own (kind.Enum names) = []
steps_of_kind g own (kind.Event params) = []
steps_of_kind g own (kind.Error params) = []

abbrev pub steps_of : Ground → Option ℕ → List Declaration → List (List ℕ)
steps_of g own = map (λ d. steps_of_kind g own d.kind)

-- of contracts of which the first has this number
abbrev pub steps_inside : Ground → ℕ → List DeclaredContract → List (List ℕ)
steps_inside g n [] = []
steps_inside g n (c ∷ cs) = steps_of g (Some n) c.declarations ++ steps_inside g (n + 1) cs

-- of each declaration the numbers of those that it reaches in one step
abbrev pub steps : Ground → List (List ℕ)
steps g = steps_inside g 0 g.text.contracts ++ steps_of g None g.text.outside
