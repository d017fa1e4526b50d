-- The rule on small texts, worked out by hand. Each declaration is named 7, and its number is its first byte.
use Rattle.std.proofs.Common.{ℕ, ◌≡◌, [], ◌∷◌, refl, Bool, true, false, Option, Some, None, List, map}
use Rattle.sv_decl.specs.declared.data.Callable.{Callable}
use Rattle.sv_decl.specs.declared.data.Callable.TheVariants as callable
use Rattle.sv_decl.specs.declared.data.Declaration.{Declaration}
use Rattle.sv_decl.specs.declared.data.DeclarationKind.{DeclarationKind}
use Rattle.sv_decl.specs.declared.data.DeclarationKind.TheVariants as kind
use Rattle.sv_decl.specs.declared.data.DeclaredContract.{DeclaredContract}
use Rattle.sv_decl.specs.declared.data.Member.{Member}
use Rattle.sv_decl.specs.declared.data.Standing.TheVariants as standing
use Rattle.sv_decl.specs.declared.data.Word.{Word}
use Rattle.sv_decl.specs.declared.data.Word.TheVariants as word
use Rattle.sv_typed.specs.declared.typed.TypedCallable.{TypedCallable}
use Rattle.sv_typed.specs.declared.typed.TypedContract.{TypedContract}
use Rattle.sv_duplicate.specs.Duplicates.{breaks_duplicate, repeats_contract, repeats_outside}
use Rattle.sv_duplicate.specs.DuplicateMembers.{repeats_member}

abbrev Row : Type 0
Row = Declaration × Option TypedCallable

-- ---- declarations and their types

abbrev named : Option ℕ → DeclarationKind → ℕ → Declaration
named name k byte = record { name = name; kind = k; spot = record { span = record { from = byte; to = byte }; place = record { line = 1; col = byte } } }

abbrev variable : List Word → ℕ → Row
variable words byte = (named (Some 7) (kind.Variable [] words None) byte, None)

abbrev event : ℕ → Row
event byte = (named (Some 7) (kind.Event []) byte, None)

abbrev enum : List ℕ → ℕ → Row
enum names byte = (named (Some 7) (kind.Enum names) byte, None)

abbrev callable_of : Callable → Bool → List Word → DeclarationKind
callable_of sort has_body words = kind.Callable (record { callable = sort; params = []; results = []; words = words; uses = []; has_body = has_body })

-- with a parameter of this type
abbrev function : ℕ → Bool → List Word → ℕ → Row
function number has_body words byte = (
  named (Some 7) (callable_of callable.Function has_body words) byte,
  Some (record { params = record { of_type = Some (record { 0 = number }); location = None } ∷ []; results = [] }),
)

abbrev modifier : ℕ → Row
modifier byte = (named (Some 7) (callable_of callable.Modifier true []) byte, Some (record { params = []; results = [] }))

abbrev constructor : ℕ → Row
constructor byte = (named None (callable_of callable.Constructor true []) byte, Some (record { params = []; results = [] }))

-- ---- texts: the declarations of each contract, and the line of each

abbrev contract : ℕ → List Row → DeclaredContract
contract byte rows = record {
  name = byte;
  standing = standing.Concrete;
  bases = [];
  declarations = map (λ r. r.0) rows;
  spot = record { span = record { from = byte; to = byte }; place = record { line = 1; col = byte } };
}

abbrev types : List Row → TypedContract
types rows = record { callables = map (λ r. r.1) rows }

-- the declaration of contract c at this position
abbrev is_twice : List (List Row) → List (Option (List ℕ)) → ℕ → ℕ → Bool
is_twice text lines c at = breaks_duplicate (map (contract 0) text) (map types text) lines c at

-- one contract with two declarations, the second of them
abbrev within : Row → Row → Bool
within f g = is_twice ((f ∷ g ∷ []) ∷ []) (Some (0 ∷ []) ∷ []) 0 1

-- contract B is A, each with one: that of B
abbrev below : Row → Row → Bool
below f g = is_twice ((f ∷ []) ∷ (g ∷ []) ∷ []) (Some (0 ∷ []) ∷ Some (0 ∷ 1 ∷ []) ∷ []) 1 0

-- contract C is A, B; that of B
abbrev beside : Row → Row → Bool
beside f g = is_twice ((f ∷ []) ∷ (g ∷ []) ∷ [] ∷ []) (Some (0 ∷ []) ∷ Some (1 ∷ []) ∷ Some (0 ∷ 1 ∷ 2 ∷ []) ∷ []) 1 0

-- ---- in one contract

-- contract C { event E(uint256 a); event E(bool a); }
events_have_no_overloads : within (event 14) (event 34) ≡ true
events_have_no_overloads = refl

the_earlier_breaks_nothing : is_twice ((event 14 ∷ event 34 ∷ []) ∷ []) (Some (0 ∷ []) ∷ []) 0 0 ≡ false
the_earlier_breaks_nothing = refl

-- contract C { function f(bool a) public { } function f(bool b) public returns (bool) { } }
functions_with_parameters_of_the_same_types : within (function 1 true [] 14) (function 1 true [] 44) ≡ true
functions_with_parameters_of_the_same_types = refl

-- contract C { function f(uint256 a) public { } function f(bool a) public { } }: an overload
functions_with_other_parameters : within (function 1 true [] 14) (function 2 true [] 47) ≡ false
functions_with_other_parameters = refl

modifiers_of_one_contract : within (modifier 14) (modifier 40) ≡ true
modifiers_of_one_contract = refl

a_function_and_a_variable : within (function 1 true [] 14) (variable [] 40) ≡ true
a_function_and_a_variable = refl

a_second_constructor : within (constructor 14) (constructor 40) ≡ true
a_second_constructor = refl

-- contract C { enum E { A, B, A } }
a_member_of_an_enum_twice : is_twice ((enum (1 ∷ 2 ∷ 1 ∷ []) 14 ∷ []) ∷ []) (Some (0 ∷ []) ∷ []) 0 0 ≡ true
a_member_of_an_enum_twice = refl

members_of_an_enum_once : is_twice ((enum (1 ∷ 2 ∷ 3 ∷ []) 14 ∷ []) ∷ []) (Some (0 ∷ []) ∷ []) 0 0 ≡ false
members_of_an_enum_once = refl

-- without a line of its own, too
without_a_line : is_twice ((event 14 ∷ event 34 ∷ []) ∷ []) (None ∷ []) 0 1 ≡ true
without_a_line = refl

-- ---- along lines

-- contract A { uint256 x; } contract B { uint256 x; } contract C is A, B { }
variables_of_two_bases : beside (variable [] 14) (variable [] 40) ≡ true
variables_of_two_bases = refl

two_contracts_apart : is_twice ((variable [] 14 ∷ []) ∷ (variable [] 40 ∷ []) ∷ []) (Some (0 ∷ []) ∷ Some (1 ∷ []) ∷ []) 1 0 ≡ false
two_contracts_apart = refl

-- contract A { uint256 private x; } contract B is A { uint256 x; }
a_private_name_of_a_base : below (variable (word.Private ∷ []) 14) (variable [] 53) ≡ false
a_private_name_of_a_base = refl

-- contract A { uint256 x; } contract B is A { uint256 private x; }
an_own_private_name : below (variable [] 14) (variable (word.Private ∷ []) 45) ≡ true
an_own_private_name = refl

-- contract A { uint256 x; } contract B { uint256 private x; } contract C is A, B { }
a_private_name_of_one_of_two_bases : beside (variable [] 14) (variable (word.Private ∷ []) 40) ≡ false
a_private_name_of_one_of_two_bases = refl

-- contract A { function f() public virtual { } } contract B is A { function f() public { } }: the rule on overrides
functions_of_two_contracts : below (function 1 true (word.Virtual ∷ []) 14) (function 1 true [] 66) ≡ false
functions_of_two_contracts = refl

modifiers_of_two_contracts : below (modifier 14) (modifier 66) ≡ false
modifiers_of_two_contracts = refl

constructors_of_two_contracts : below (constructor 14) (constructor 66) ≡ false
constructors_of_two_contracts = refl

-- ---- a public variable for a function

-- interface I { function x() external returns (uint256); } contract C is I { uint256 public x; }
a_public_variable_stands_for_an_external_function : below (function 1 false (word.External ∷ []) 15) (variable (word.Public ∷ []) 76) ≡ false
a_public_variable_stands_for_an_external_function = refl

another_variable_does_not : below (function 1 false (word.External ∷ []) 15) (variable [] 76) ≡ true
another_variable_does_not = refl

-- abstract contract A { function x() public virtual; } contract C is A { uint256 public x; }
nor_for_a_public_function : below (function 1 false (word.Public ∷ word.Virtual ∷ []) 23) (variable (word.Public ∷ []) 72) ≡ true
nor_for_a_public_function = refl

nor_for_one_with_a_body : below (function 1 true (word.External ∷ []) 14) (variable (word.Public ∷ []) 72) ≡ true
nor_for_one_with_a_body = refl

nor_for_one_of_a_contract_that_its_own_does_not_derive_from : beside (function 1 false (word.External ∷ []) 15) (variable (word.Public ∷ []) 72) ≡ true
nor_for_one_of_a_contract_that_its_own_does_not_derive_from = refl

-- ---- outside of contracts, and members

-- contract C { } struct C { uint256 a; }
a_contract_and_a_struct : repeats_outside (record { contracts = contract 7 [] ∷ []; outside = named (Some 7) (kind.Struct []) 16 ∷ [] }) (Some (named (Some 7) (kind.Struct []) 16)) ≡ true
a_contract_and_a_struct = refl

the_contract_is_the_earlier : repeats_contract (record { contracts = contract 7 [] ∷ []; outside = named (Some 7) (kind.Struct []) 16 ∷ [] }) (Some (contract 7 [])) ≡ false
the_contract_is_the_earlier = refl

abbrev member : Option ℕ → Member
member name = record { name = name; of_type = []; location = None; spot = record { span = record { from = 0; to = 0 }; place = record { line = 1; col = 1 } } }

-- function f(uint256 a, uint256 a)
a_parameter_twice : repeats_member [] (member (Some 1) ∷ member (Some 1) ∷ []) 1 ≡ true
a_parameter_twice = refl

the_first_of_two_parameters : repeats_member [] (member (Some 1) ∷ member (Some 1) ∷ []) 0 ≡ false
the_first_of_two_parameters = refl

-- function f(uint256 a) returns (uint256 a)
a_result_named_like_a_parameter : repeats_member (member (Some 1) ∷ []) (member (Some 1) ∷ []) 0 ≡ true
a_result_named_like_a_parameter = refl

-- function f(uint256, uint256)
parameters_without_names : repeats_member [] (member None ∷ member None ∷ []) 1 ≡ false
parameters_without_names = refl
