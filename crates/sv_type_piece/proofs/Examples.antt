-- What names mean in small texts, worked out by hand, wherever their parts stand.
use Rattle.std.proofs.Common.{ℕ, ◌≡◌, [], ◌∷◌, refl, Some, None, List}
use Rattle.std.specs.Prelude.{codes}
use Rattle.sv_plain.specs.declared.spot.Spot.{Spot}
use Rattle.sv_ast.specs.Classes.{sizes}
use Rattle.sv_decl.specs.declared.data.Declaration.{Declaration}
use Rattle.sv_decl.specs.declared.data.DeclarationKind.TheVariants as kind
use Rattle.sv_decl.specs.declared.data.DeclaredContract.{DeclaredContract}
use Rattle.sv_decl.specs.declared.data.DeclaredText.{DeclaredText}
use Rattle.sv_decl.specs.declared.data.Standing.TheVariants as standing
use Rattle.sv_text_type.specs.declared.text_type.TextType.TheVariants as t
use Rattle.sv_type_piece.specs.ElementaryTypes.{elementary_rows, elementary_type}
use Rattle.sv_type_piece.specs.DeclaredTypes.{member_type, named_type}

abbrev struct : ℕ → Spot → Declaration
struct n at = record { name = Some n; kind = kind.Struct []; spot = at }

abbrev enum : ℕ → Spot → Declaration
enum n at = record { name = Some n; kind = kind.Enum []; spot = at }

abbrev contract : ℕ → List Declaration → Spot → DeclaredContract
contract n ds at = record { name = n; standing = standing.Concrete; bases = []; declarations = ds; spot = at }

-- contract 10 { struct 1; enum 2; struct 3 }, contract 11 is 10 { struct 4 }, contract 12 { enum 1 }; struct 5, struct 4 and enum 11 outside
abbrev text : Spot → DeclaredText
text at = record {
  contracts = contract 10 (struct 1 at ∷ enum 2 at ∷ struct 3 at ∷ []) at ∷ contract 11 (struct 4 at ∷ []) at ∷ contract 12 (enum 1 at ∷ []) at ∷ [];
  outside = struct 5 at ∷ struct 4 at ∷ enum 11 at ∷ [];
}

abbrev sights : List (List ℕ)
sights = (0 ∷ []) ∷ (0 ∷ 1 ∷ []) ∷ (2 ∷ []) ∷ []

inherited : (at : Spot) → named_type (text at) sights (Some 1) 3 ≡ Some (t.Struct 1)
inherited at = refl

own : (at : Spot) → named_type (text at) sights (Some 1) 4 ≡ Some (t.Struct 2)
own at = refl

-- the struct 4 outside, behind three structs of contracts and one outside
of_the_text : (at : Spot) → named_type (text at) sights (Some 0) 4 ≡ Some (t.Struct 4)
of_the_text at = refl

-- a contract comes before what stands outside
a_contract : (at : Spot) → named_type (text at) sights None 11 ≡ Some (t.Contract 1)
a_contract at = refl

of_another : (at : Spot) → named_type (text at) sights (Some 2) 3 ≡ None
of_another at = refl

another_enum : (at : Spot) → named_type (text at) sights (Some 2) 1 ≡ Some (t.Enum 1)
another_enum at = refl

-- `11.1`, inherited, as contract 12 writes it
by_member : (at : Spot) → member_type (text at) sights (Some 2) 11 1 ≡ Some (t.Struct 0)
by_member at = refl

-- `11.5`: what the text declares is no member
no_member : (at : Spot) → member_type (text at) sights (Some 2) 11 5 ≡ None
no_member at = refl

uint : elementary_type (codes "uint") ≡ Some (t.Uint 256)
unfolding elementary_rows sizes
uint = refl

int24 : elementary_type (codes "int24") ≡ Some (t.Int 24)
unfolding elementary_rows sizes
int24 = refl

uint160 : elementary_type (codes "uint160") ≡ Some (t.Uint 160)
unfolding elementary_rows sizes
uint160 = refl

uint7 : elementary_type (codes "uint7") ≡ None
unfolding elementary_rows sizes
uint7 = refl
