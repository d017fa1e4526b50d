-- The rules on small texts, worked out by hand. Each declaration is named 7, and its number is its first byte.
use Rattle.std.proofs.Common.{ℕ, ◌≡◌, [], ◌∷◌, refl, Bool, true, false, Option, Some, None, List, map}
use Rattle.sv_ast.specs.declared.types.WhereKind.{WhereKind}
use Rattle.sv_ast.specs.declared.types.WhereKind.TheVariants as where_kind
use Rattle.sv_decl.specs.declared.data.Callable.{Callable}
use Rattle.sv_decl.specs.declared.data.Callable.TheVariants as callable
use Rattle.sv_decl.specs.declared.data.Declaration.{Declaration}
use Rattle.sv_decl.specs.declared.data.DeclarationKind.TheVariants as kind
use Rattle.sv_decl.specs.declared.data.DeclaredContract.{DeclaredContract}
use Rattle.sv_decl.specs.declared.data.Standing.{Standing}
use Rattle.sv_decl.specs.declared.data.Standing.TheVariants as standing
use Rattle.sv_decl.specs.declared.data.Word.{Word}
use Rattle.sv_decl.specs.declared.data.Word.TheVariants as word
use Rattle.sv_typed.specs.declared.typed.TypedCallable.{TypedCallable}
use Rattle.sv_typed.specs.declared.typed.TypedContract.{TypedContract}
use Rattle.sv_typed.specs.declared.typed.TypedMember.{TypedMember}
use Rattle.sv_override.specs.Overrides.{breaks_override}
use Rattle.sv_override.specs.Overloads.{breaks_overload}

abbrev Row : Type 0
Row = Declaration × Option TypedCallable

-- ---- declarations and their types

abbrev declared : Callable → List Word → ℕ → Declaration
declared sort words byte = record {
  name = Some 7;
  kind = kind.Callable (record { callable = sort; params = []; results = []; words = words; uses = []; has_body = true });
  spot = record { span = record { from = byte; to = byte }; place = record { line = 1; col = byte } };
}

abbrev typed : List TypedMember → List TypedMember → Option TypedCallable
typed params results = Some (record { params = params; results = results })

abbrev of : ℕ → TypedMember
of number = record { of_type = Some (record { 0 = number }); location = None }

abbrev lying : WhereKind → TypedMember
lying location = record { of_type = Some (record { 0 = 3 }); location = Some location }

-- a type that names something unknown
abbrev unknown : TypedMember
unknown = record { of_type = None; location = None }

-- a function without parameters, and one with a parameter of type 1
abbrev function : List Word → ℕ → Row
function words byte = (declared callable.Function words byte, typed [] [])

abbrev given : List Word → ℕ → Row
given words byte = (declared callable.Function words byte, typed (of 1 ∷ []) [])

-- with parameters and results
abbrev giving : List TypedMember → List TypedMember → List Word → ℕ → Row
giving params results words byte = (declared callable.Function words byte, typed params results)

abbrev special : List Word → ℕ → Row
special words byte = (declared callable.Special words byte, typed [] [])

abbrev modifier : List Word → ℕ → Row
modifier words byte = (declared callable.Modifier words byte, typed [] [])

abbrev open_word : List Word
open_word = word.Virtual ∷ []

abbrev over : List Word
over = word.Override ∷ []

-- ---- texts: the declarations of each contract, and the line of each

abbrev Contract : Type 0
Contract = Standing × List Row

abbrev contract : Contract → DeclaredContract
contract c = record {
  name = 0;
  standing = c.0;
  bases = [];
  declarations = map (λ r. r.0) c.1;
  spot = record { span = record { from = 0; to = 0 }; place = record { line = 1; col = 1 } };
}

abbrev types : Contract → TypedContract
types c = record { callables = map (λ r. r.1) c.1 }

-- the first declaration of contract c
abbrev overrides : List Contract → List (Option (List ℕ)) → ℕ → Bool
overrides text lines c = breaks_override (map contract text) (map types text) lines c 0

abbrev overloads : List Contract → List (Option (List ℕ)) → ℕ → Bool
overloads text lines c = breaks_overload (map contract text) (map types text) lines c 0

-- contract B is A, each with one declaration: what is asked of that of B
abbrev below : Standing → Row → Row → List Contract
below s f g = (s, f ∷ []) ∷ (standing.Concrete, g ∷ []) ∷ []

abbrev derived : List (Option (List ℕ))
derived = Some (0 ∷ []) ∷ Some (0 ∷ 1 ∷ []) ∷ []

-- contract C is A, B, each with these
abbrev joined : List (Option (List ℕ))
joined = Some (0 ∷ []) ∷ Some (1 ∷ []) ∷ Some (0 ∷ 1 ∷ 2 ∷ []) ∷ []

abbrev beside : List Row → List Row → List Row → List Contract
beside f g h = (standing.Concrete, f) ∷ (standing.Concrete, g) ∷ (standing.Concrete, h) ∷ []

-- ---- `override`

-- interface I { function f() external; } contract C is I { function f() external { } }
a_lone_interface_needs_no_override : overrides (below standing.Interface (function (word.External ∷ []) 14) (function (word.External ∷ []) 54)) derived 1 ≡ false
a_lone_interface_needs_no_override = refl

-- contract A { function f() public virtual { } } contract B is A { function f() public { } }
a_contract_needs_override : overrides (below standing.Concrete (function open_word 14) (function [] 66)) derived 1 ≡ true
a_contract_needs_override = refl

an_override_is_accepted : overrides (below standing.Concrete (function open_word 14) (function over 66)) derived 1 ≡ false
an_override_is_accepted = refl

-- interface I { function f() external; } interface J { function f() external; } contract C is I, J { function f() external { } }
two_interfaces_need_override : overrides ((standing.Interface, function [] 15 ∷ []) ∷ (standing.Interface, function [] 55 ∷ []) ∷ (standing.Concrete, function [] 99 ∷ []) ∷ []) joined 2 ≡ true
two_interfaces_need_override = refl

two_interfaces_are_overridden : overrides ((standing.Interface, function [] 15 ∷ []) ∷ (standing.Interface, function [] 55 ∷ []) ∷ (standing.Concrete, function over 99 ∷ []) ∷ []) joined 2 ≡ false
two_interfaces_are_overridden = refl

-- contract C { function f() public override { } }
nothing_is_overridden : overrides ((standing.Concrete, function over 14 ∷ []) ∷ []) (Some (0 ∷ []) ∷ []) 0 ≡ false
nothing_is_overridden = refl

-- contract C { modifier m() virtual { _; } } contract D is C { modifier m() { _; } }
a_modifier_needs_override : overrides (below standing.Concrete (modifier open_word 14) (modifier [] 61)) derived 1 ≡ true
a_modifier_needs_override = refl

-- contract A { receive() external payable virtual { } } contract B is A { receive() external payable { } }
receive_needs_override : overrides (below standing.Concrete (special open_word 14) (special [] 73)) derived 1 ≡ true
receive_needs_override = refl

-- ---- `virtual`

-- contract A { function f() public { } } contract B is A { function f() public override { } }
a_base_s_without_virtual : overrides (below standing.Concrete (function [] 14) (function over 58)) derived 1 ≡ true
a_base_s_without_virtual = refl

-- a function isn't held against a modifier, which breaks another rule
another_sort : overrides (below standing.Concrete (modifier [] 14) (function [] 58)) derived 1 ≡ false
another_sort = refl

-- ---- parameters and results

-- contract A { function f() public virtual { } } contract B is A { function f(bool a) public override { } }
other_parameters : overrides (below standing.Concrete (function open_word 14) (given over 66)) derived 1 ≡ true
other_parameters = refl

other_parameters_are_an_overload_too : overloads (below standing.Concrete (function open_word 14) (given over 66)) derived 1 ≡ true
other_parameters_are_an_overload_too = refl

other_results : overrides (below standing.Concrete (giving [] (of 1 ∷ []) open_word 14) (giving [] (of 2 ∷ []) over 66)) derived 1 ≡ true
other_results = refl

unknown_types_differ : overrides (below standing.Concrete (giving (unknown ∷ []) [] open_word 14) (giving (unknown ∷ []) [] over 66)) derived 1 ≡ true
unknown_types_differ = refl

-- abstract contract A { function f(uint256[] calldata a) public virtual; } contract C is A { function f(uint256[] memory a) public override { } }
locations_count : overrides (below standing.Abstract (giving (lying where_kind.Calldata ∷ []) [] open_word 23) (giving (lying where_kind.Memory ∷ []) [] over 92)) derived 1 ≡ true
locations_count = refl

-- interface I { function f(uint256[] calldata a) external; } contract C is I { function f(uint256[] memory a) public { } }
locations_of_external_ones_do_not : overrides (below standing.Interface (giving (lying where_kind.Calldata ∷ []) [] (word.External ∷ []) 15) (giving (lying where_kind.Memory ∷ []) [] [] 78)) derived 1 ≡ false
locations_of_external_ones_do_not = refl

-- ---- along a line, of contracts that don't derive from each other

-- contract B { function f() public virtual returns (uint256) { return 1; } } contract A { function f() public virtual returns (bool) { return true; } } contract C is A, B { }: A's is the later
the_later_of_two_bases : overrides (beside (giving [] (of 1 ∷ []) open_word 14 ∷ []) (giving [] (of 2 ∷ []) open_word 89 ∷ []) []) (Some (0 ∷ []) ∷ Some (1 ∷ []) ∷ Some (1 ∷ 0 ∷ 2 ∷ []) ∷ []) 1 ≡ true
the_later_of_two_bases = refl

the_earlier_of_two_bases : overrides (beside (giving [] (of 1 ∷ []) open_word 14 ∷ []) (giving [] (of 2 ∷ []) open_word 89 ∷ []) []) (Some (0 ∷ []) ∷ Some (1 ∷ []) ∷ Some (1 ∷ 0 ∷ 2 ∷ []) ∷ []) 0 ≡ false
the_earlier_of_two_bases = refl

-- contract A { function f() public virtual { } } contract B { function f() public virtual { } } contract C is A, B { function f() public override(A, B) { } }
both_are_overridden : overrides (beside (function open_word 14 ∷ []) (function open_word 61 ∷ []) (function over 116 ∷ [])) joined 1 ≡ false
both_are_overridden = refl

-- contract A { modifier m() virtual { _; } } contract B { modifier m() virtual { _; } } contract C is A, B { }
modifiers_of_two_bases : overrides (beside (modifier open_word 14 ∷ []) (modifier open_word 57 ∷ []) []) joined 1 ≡ true
modifiers_of_two_bases = refl

-- contract A { modifier m() virtual { _; } } contract B { modifier m(bool a) virtual { _; } } contract C is A, B { }
modifiers_have_no_overloads : overrides (beside (modifier open_word 14 ∷ []) ((declared callable.Modifier open_word 57, typed (of 1 ∷ []) []) ∷ []) []) joined 1 ≡ true
modifiers_have_no_overloads = refl

-- abstract contract A { function f() public virtual; } contract B is A { function f() public override { } } abstract contract D is A { } contract C is D, B { }
the_heir_derives_from_the_other : overrides ((standing.Abstract, function open_word 23 ∷ []) ∷ (standing.Concrete, function over 72 ∷ []) ∷ (standing.Abstract, []) ∷ (standing.Concrete, []) ∷ []) (Some (0 ∷ []) ∷ Some (0 ∷ 1 ∷ []) ∷ Some (0 ∷ 2 ∷ []) ∷ Some (0 ∷ 2 ∷ 1 ∷ 3 ∷ []) ∷ []) 1 ≡ false
the_heir_derives_from_the_other = refl

-- contract A { function f() public virtual { } } contract B is A { function f() public override { } } contract D is A { function f() public override { } } contract C is B, D { }
the_sides_of_a_diamond : overrides ((standing.Concrete, function open_word 14 ∷ []) ∷ (standing.Concrete, function over 66 ∷ []) ∷ (standing.Concrete, function over 119 ∷ []) ∷ (standing.Concrete, []) ∷ []) (Some (0 ∷ []) ∷ Some (0 ∷ 1 ∷ []) ∷ Some (0 ∷ 2 ∷ []) ∷ Some (0 ∷ 1 ∷ 2 ∷ 3 ∷ []) ∷ []) 2 ≡ true
the_sides_of_a_diamond = refl

-- a contract without a line joins nothing
without_a_line : overrides (beside (function open_word 14 ∷ []) (function open_word 61 ∷ []) []) (Some (0 ∷ []) ∷ Some (1 ∷ []) ∷ None ∷ []) 1 ≡ false
without_a_line = refl

-- ---- overloads

-- contract A { function f(bool a) public { } } contract B { function f() public { } } contract C is A, B { }: an overload, and no override
the_later_overload : overloads (beside (given [] 14 ∷ []) (function [] 59 ∷ []) []) joined 1 ≡ true
the_later_overload = refl

the_earlier_overload : overloads (beside (given [] 14 ∷ []) (function [] 59 ∷ []) []) joined 0 ≡ false
the_earlier_overload = refl

an_overload_is_no_override : overrides (beside (given [] 14 ∷ []) (function [] 59 ∷ []) []) joined 1 ≡ false
an_overload_is_no_override = refl

-- contract C { function f(uint256 a) public { } function f(bool a) public { } }, the second named first here
in_one_contract : overloads ((standing.Concrete, giving (of 1 ∷ []) [] [] 47 ∷ giving (of 2 ∷ []) [] [] 14 ∷ []) ∷ []) (Some (0 ∷ []) ∷ []) 0 ≡ true
in_one_contract = refl

-- contract C { function f(bool a) public { } function f(bool b) public returns (bool) { } }
parameters_of_the_same_types : overloads ((standing.Concrete, giving (of 2 ∷ []) (of 2 ∷ []) [] 44 ∷ giving (of 2 ∷ []) [] [] 14 ∷ []) ∷ []) (Some (0 ∷ []) ∷ []) 0 ≡ false
parameters_of_the_same_types = refl

modifiers_are_no_overloads : overloads (beside (modifier [] 14 ∷ []) ((declared callable.Modifier [] 57, typed (of 1 ∷ []) []) ∷ []) []) joined 1 ≡ false
modifiers_are_no_overloads = refl
