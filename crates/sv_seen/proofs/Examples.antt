-- What names mean in small texts, worked out by hand.
use Rattle.std.proofs.Common.{ℕ, ◌≡◌, [], ◌∷◌, refl, Bool, true, false, Option, Some, None, List}
use Rattle.std.specs.Prelude.{codes}
use Rattle.sv_plain.specs.declared.spot.Spot.{Spot}
use Rattle.sv_decl.specs.declared.data.Callable.TheVariants as callable
use Rattle.sv_decl.specs.declared.data.Declaration.{Declaration}
use Rattle.sv_decl.specs.declared.data.DeclarationKind.TheVariants as kind
use Rattle.sv_decl.specs.declared.data.DeclaredContract.{DeclaredContract}
use Rattle.sv_decl.specs.declared.data.DeclaredText.{DeclaredText}
use Rattle.sv_decl.specs.declared.data.Standing.TheVariants as standing
use Rattle.sv_decl.specs.declared.data.Word.{Word}
use Rattle.sv_decl.specs.declared.data.Word.TheVariants as word
use Rattle.sv_target.specs.declared.target.Target.{Target}
use Rattle.sv_target.specs.declared.target.Target.TheVariants as means
use Rattle.sv_local_names.specs.LocalScopes.{Locals, no_locals, entered, declared}
use Rattle.sv_seen.specs.declared.outlook.Within.{Within}
use Rattle.sv_seen.specs.declared.outlook.Within.TheVariants as within
use Rattle.sv_seen.specs.declared.wanted.Wanted.TheVariants as wanted
use Rattle.sv_seen.specs.NameMeanings.{Surroundings, seen, fits}

abbrev at : ℕ → Spot
at byte = record { span = record { from = byte; to = byte }; place = record { line = 1; col = byte } }

abbrev variable : ℕ → List Word → ℕ → Declaration
variable n ws byte = record { name = Some n; kind = kind.Variable [] ws None; spot = at byte }

abbrev function : ℕ → List Word → ℕ → Declaration
function n ws byte = record { name = Some n; kind = kind.Callable (record { callable = callable.Function; params = []; results = []; words = ws; uses = []; has_body = true }); spot = at byte }

abbrev contract : ℕ → List Declaration → ℕ → DeclaredContract
contract n ds byte = record { name = n; standing = standing.Concrete; bases = []; declarations = ds; spot = at byte }

abbrev text : List DeclaredContract → List Declaration → DeclaredText
text cs ds = record { contracts = cs; outside = ds }

-- within a contract that sees the names of these
abbrev inside : DeclaredText → ℕ → List ℕ → Locals → Within → Surroundings
inside t c line locals w = record { text = t; contract = Some c; line = line; locals = locals; within = w }

-- the names A and B are 0 and 1; x, f and r are 2, 3 and 4

-- contract A { uint256 private x; } contract B is A { }
abbrev private_in_a : DeclaredText
private_in_a = text (contract 0 (variable 2 (word.Private ∷ []) 10 ∷ []) 0 ∷ contract 1 [] 40 ∷ []) []

own_private : seen (inside private_in_a 0 (0 ∷ []) no_locals within.Code) 2 (codes "x") ≡ Some (means.Var 0)
own_private = refl

private_of_another : seen (inside private_in_a 1 (0 ∷ 1 ∷ []) no_locals within.Code) 2 (codes "x") ≡ None
private_of_another = refl

the_base_by_its_name : seen (inside private_in_a 1 (0 ∷ 1 ∷ []) no_locals within.Code) 0 (codes "A") ≡ Some (means.Contract 0)
the_base_by_its_name = refl

-- contract A { function f() external { } }
external_by_its_name : seen (inside (text (contract 0 (function 3 (word.External ∷ []) 10 ∷ []) 0 ∷ []) []) 0 (0 ∷ []) no_locals within.Code) 3 (codes "f") ≡ None
external_by_its_name = refl

-- contract A { function f() public virtual { } } contract B is A { function f() public override { } }
abbrev overridden : DeclaredText
overridden = text (contract 0 (function 3 (word.Public ∷ word.Virtual ∷ []) 10 ∷ []) 0 ∷ contract 1 (function 3 (word.Public ∷ word.Override ∷ []) 60 ∷ []) 50 ∷ []) []

most_derived : seen (inside overridden 1 (0 ∷ 1 ∷ []) no_locals within.Code) 3 (codes "f") ≡ Some (means.Func 1)
most_derived = refl

in_the_base : seen (inside overridden 0 (0 ∷ []) no_locals within.Code) 3 (codes "f") ≡ Some (means.Func 0)
in_the_base = refl

-- uint256 constant x = 1; contract A { uint256 r; function f(uint256 x) public { { uint256 r = x; r = 2; } } }
abbrev with_constant : DeclaredText
with_constant = text (contract 0 (variable 4 [] 40 ∷ function 3 (word.Public ∷ []) 50 ∷ []) 30 ∷ []) (variable 2 (word.Constant ∷ []) 0 ∷ [])

abbrev in_block : Locals
in_block = entered (entered (declared (Some 2) false (entered no_locals)))

a_parameter : seen (inside with_constant 0 (0 ∷ []) in_block within.Code) 2 (codes "x") ≡ Some (means.Local 0)
a_parameter = refl

before_its_declaration : seen (inside with_constant 0 (0 ∷ []) in_block within.Code) 4 (codes "r") ≡ Some (means.Var 1)
before_its_declaration = refl

behind_its_declaration : seen (inside with_constant 0 (0 ∷ []) (declared (Some 4) false in_block) within.Code) 4 (codes "r") ≡ Some (means.Local 1)
behind_its_declaration = refl

the_constant : seen (inside with_constant 0 (0 ∷ []) no_locals within.Code) 2 (codes "x") ≡ Some (means.Var 0)
the_constant = refl

-- /** @notice precondition r == 0 */ function f() public returns (uint256 r) { }, beside uint256 r;
abbrev with_result : Locals
with_result = declared (Some 4) true (entered no_locals)

a_result_at_the_entry : seen (inside with_constant 0 (0 ∷ []) with_result within.Entry) 4 (codes "r") ≡ None
a_result_at_the_entry = refl

a_result_at_the_end : seen (inside with_constant 0 (0 ∷ []) with_result within.Annotation) 4 (codes "r") ≡ Some (means.Local 0)
a_result_at_the_end = refl

-- `msg`, 5, and `__verifier_sum_uint`, 6
the_message : seen (inside with_constant 0 (0 ∷ []) no_locals within.Code) 5 (codes "msg") ≡ Some (means.Builtin 5)
the_message = refl

a_sum_in_code : seen (inside with_constant 0 (0 ∷ []) no_locals within.Code) 6 (codes "__verifier_sum_uint") ≡ None
a_sum_in_code = refl

a_sum_in_an_annotation : seen (inside with_constant 0 (0 ∷ []) no_locals within.Annotation) 6 (codes "__verifier_sum_uint") ≡ Some (means.Builtin 6)
a_sum_in_an_annotation = refl

-- contract A { uint256 msg; }
declared_anew : seen (inside (text (contract 0 (variable 5 [] 10 ∷ []) 0 ∷ []) []) 0 (0 ∷ []) no_locals within.Code) 5 (codes "msg") ≡ Some (means.Var 0)
declared_anew = refl

a_variable_is_no_type : fits wanted.Type (means.Var 0) ≡ false
a_variable_is_no_type = refl
