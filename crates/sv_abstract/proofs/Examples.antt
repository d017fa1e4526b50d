-- The rule on small texts, worked out by hand, wherever their parts stand.
use Rattle.std.proofs.Common.{ℕ, ◌≡◌, [], ◌∷◌, refl, Bool, true, false, Some, None, List}
use Rattle.sv_plain.specs.declared.spot.Spot.{Spot}
use Rattle.sv_decl.specs.declared.data.Callable.TheVariants as callable
use Rattle.sv_decl.specs.declared.data.Declaration.{Declaration}
use Rattle.sv_decl.specs.declared.data.DeclarationKind.TheVariants as kind
use Rattle.sv_decl.specs.declared.data.DeclaredContract.{DeclaredContract}
use Rattle.sv_decl.specs.declared.data.Standing.{Standing}
use Rattle.sv_decl.specs.declared.data.Standing.TheVariants as standing
use Rattle.sv_decl.specs.declared.data.Word.TheVariants as word
use Rattle.sv_abstract.specs.BodilessFunctions.{lacks_body}

-- a function named 7
abbrev function : Bool → Spot → Declaration
function has at = record { name = Some 7; kind = kind.Callable (record { callable = callable.Function; params = []; results = []; words = []; uses = []; has_body = has }); spot = at }

-- a public variable named 7
abbrev variable : Spot → Declaration
variable at = record { name = Some 7; kind = kind.Variable [] (word.Public ∷ []) None; spot = at }

abbrev contract : ℕ → Standing → List Declaration → Spot → DeclaredContract
contract n s ds at = record { name = n; standing = s; bases = []; declarations = ds; spot = at }

-- interface I { function f() external; } contract C is I { }
inherited : (at : Spot) → lacks_body (contract 0 standing.Interface (function false at ∷ []) at ∷ contract 1 standing.Concrete [] at ∷ []) (Some (0 ∷ []) ∷ Some (0 ∷ 1 ∷ []) ∷ []) 0 (function false at) ≡ true
inherited at = refl

-- abstract contract A { function f() public virtual; } contract B is A { function f() public override { } }
given : (at : Spot) → lacks_body (contract 0 standing.Abstract (function false at ∷ []) at ∷ contract 1 standing.Concrete (function true at ∷ []) at ∷ []) (Some (0 ∷ []) ∷ Some (0 ∷ 1 ∷ []) ∷ []) 0 (function false at) ≡ false
given at = refl

-- interface I { function x() external returns (uint256); } contract C is I { uint256 public x; }
read : (at : Spot) → lacks_body (contract 0 standing.Interface (function false at ∷ []) at ∷ contract 1 standing.Concrete (variable at ∷ []) at ∷ []) (Some (0 ∷ []) ∷ Some (0 ∷ 1 ∷ []) ∷ []) 0 (function false at) ≡ false
read at = refl
