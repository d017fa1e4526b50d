-- Believed: which type a piece stands for, by what names mean to the contract that writes it. Hold it against Solidity's documentation, "Scoping and Declarations" and "Inheritance", and docs/names.md.
use Rattle.std.specs.Prelude.{ℕ, ◌==◌, ◌+◌, Bool, true, false, nat_eq, cond, Option, Some, None, List, [], ◌∷◌, length, take, slice_get, slice_index_or}
use Rattle.std.specs.Option.{option_map}
use Rattle.sv_decl.specs.declared.data.Declaration.{Declaration}
use Rattle.sv_decl.specs.declared.data.DeclarationKind.{DeclarationKind}
use Rattle.sv_decl.specs.declared.data.DeclarationKind.TheVariants as kind
use Rattle.sv_decl.specs.declared.data.DeclaredContract.{DeclaredContract}
use Rattle.sv_decl.specs.declared.data.DeclaredText.{DeclaredText}
use Rattle.sv_decl.specs.declared.data.TypePiece.{TypePiece}
use Rattle.sv_decl.specs.declared.data.TypePiece.TheVariants as piece
use Rattle.sv_member.specs.SeenNames.{hit, has_name, seen_by}
use Rattle.sv_member.specs.declared.seen.Hit.{Hit}
use Rattle.sv_text_type.specs.declared.text_type.TextType.{TextType}
use Rattle.sv_text_type.specs.declared.text_type.TextType.TheVariants as t
use Rattle.sv_type_piece.specs.ElementaryTypes.{elementary_type}
use Rattle.sv_type_piece.specs.declared.count.TypeKind.{TypeKind}
use Rattle.sv_type_piece.specs.declared.count.TypeKind.TheVariants as type_kind

-- ---- structs and enums, and their numbers

abbrev pub kind_of : DeclarationKind → Option TypeKind
kind_of (kind.Struct fields) = Some type_kind.Struct
kind_of (kind.Enum names) = Some type_kind.Enum
kind_of (kind.Variable of_type words value) = None
kind_of (kind.Callable s) = None
kind_of (kind.Event params) = None
kind_of (kind.Error params) = None

abbrev pub is_one : TypeKind → Option TypeKind → Bool
is_one type_kind.Struct (Some type_kind.Struct) = true
is_one type_kind.Enum (Some type_kind.Enum) = true
is_one _ _ = false

abbrev pub is_kind : TypeKind → Declaration → Bool
is_kind k d = is_one k (kind_of d.kind)

-- how many of the kind are among these declarations
abbrev pub count_of : TypeKind → List Declaration → ℕ
count_of k [] = 0
count_of k (d ∷ ds) = cond (is_kind k d) (count_of k ds + 1) (count_of k ds)

-- how many are in these contracts
abbrev pub count_in : TypeKind → List DeclaredContract → ℕ
count_in k [] = 0
count_in k (c ∷ cs) = count_of k c.declarations + count_in k cs

-- the declarations of a contract; what is outside of all has the number behind the last
abbrev pub declared_at : List Declaration → Option DeclaredContract → List Declaration
declared_at outside None = outside
declared_at outside (Some c) = c.declarations

abbrev pub block : DeclaredText → ℕ → List Declaration
block text c = declared_at text.outside (slice_get text.contracts c)

-- a struct's number is how many structs the contracts above declare, and its own contract before it; so for enums
abbrev pub number : DeclaredText → TypeKind → Hit → ℕ
number text k h = count_in k (take h.contract text.contracts) + count_of k (take h.at (block text h.contract))

abbrev pub type_of : TypeKind → ℕ → TextType
type_of type_kind.Struct n = t.Struct n
type_of type_kind.Enum n = t.Enum n

abbrev pub kind_at : Option Declaration → Option TypeKind
kind_at None = None
kind_at (Some d) = kind_of d.kind

-- the type that is declared there
abbrev pub type_at : DeclaredText → Hit → Option TextType
type_at text h = option_map (λ k. type_of k (number text k h)) (kind_at (slice_get (block text h.contract) h.at))

-- ---- what a name means

abbrev pub first_of : Option TextType → Option TextType → Option TextType
first_of None more = more
first_of (Some a) more = Some a

-- the first of these that is a type
abbrev pub first_type : DeclaredText → List Hit → Option TextType
first_type text [] = None
first_type text (h ∷ hs) = first_of (type_at text h) (first_type text hs)

-- the first contract of the name, of which the first has this number
abbrev pub contract_from : ℕ → ℕ → List DeclaredContract → Option ℕ
contract_from name n [] = None
contract_from name n (c ∷ cs) = cond (nat_eq c.name name) (Some n) (contract_from name (n + 1) cs)

-- the declarations of the name, in block c, of which the first has this position
abbrev pub named_from : ℕ → ℕ → ℕ → List Declaration → List Hit
named_from name c n [] = []
named_from name c n (d ∷ ds) = cond (has_name name d) (hit c n ∷ named_from name c (n + 1) ds) (named_from name c (n + 1) ds)

-- a contract, or else what stands outside of all
abbrev pub text_type : DeclaredText → ℕ → Option ℕ → Option TextType
text_type text name (Some c) = Some (t.Contract c)
text_type text name None = first_type text (named_from name (length text.contracts) 0 text.outside)

abbrev pub type_of_text : DeclaredText → ℕ → Option TextType
type_of_text text name = text_type text name (contract_from name 0 text.contracts)

-- what contract c sees by a name in the contracts where it looks; outside of all contracts nothing is seen so
abbrev pub seen : DeclaredText → List (List ℕ) → Option ℕ → ℕ → List Hit
seen text sights None name = []
seen text sights (Some c) name = seen_by text.contracts c name (slice_index_or sights c [])

-- what is seen in contracts hides what the text declares
abbrev pub named_type : DeclaredText → List (List ℕ) → Option ℕ → ℕ → Option TextType
named_type text sights c name = cond (length (seen text sights c name) == 0) (type_of_text text name) (first_type text (seen text sights c name))

-- of a contract, by what it sees itself
abbrev pub type_in : DeclaredText → List (List ℕ) → ℕ → Option ℕ → Option TextType
type_in text sights member None = None
type_in text sights member (Some c) = first_type text (seen text sights (Some c) member)

-- `C.S`, where C means a contract
abbrev pub member_type : DeclaredText → List (List ℕ) → Option ℕ → ℕ → ℕ → Option TextType
member_type text sights c name member = cond (length (seen text sights c name) == 0) (type_in text sights member (contract_from name 0 text.contracts)) None

-- ---- pieces

abbrev pub text_of : List (List ℕ) → ℕ → List ℕ
text_of names n = slice_index_or names n []

-- the type that a piece stands for by itself: one without parts
abbrev pub piece_type : List (List ℕ) → DeclaredText → List (List ℕ) → Option ℕ → TypePiece → Option TextType
piece_type names text sights c (piece.Elementary n) = elementary_type (text_of names n)
piece_type names text sights c (piece.Address is_payable) = Some (t.Address is_payable)
piece_type names text sights c piece.String = Some t.Text
piece_type names text sights c (piece.Named n) = named_type text sights c n
piece_type names text sights c (piece.Member n member) = member_type text sights c n member
piece_type names text sights c piece.Mapping = None
piece_type names text sights c piece.Dynamic = None
piece_type names text sights c (piece.Fixed span) = None
