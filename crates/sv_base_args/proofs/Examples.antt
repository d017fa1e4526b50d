-- The rule on small texts, worked out by hand, wherever their parts stand.
use Rattle.std.proofs.Common.{ℕ, ◌≡◌, [], ◌∷◌, refl, true, false, Some, None, Option, List}
use Rattle.sv_plain.specs.declared.spot.Spot.{Spot}
use Rattle.sv_decl.specs.declared.data.Callable.TheVariants as callable
use Rattle.sv_decl.specs.declared.data.Declaration.{Declaration}
use Rattle.sv_decl.specs.declared.data.DeclarationKind.TheVariants as kind
use Rattle.sv_decl.specs.declared.data.DeclaredContract.{DeclaredContract}
use Rattle.sv_decl.specs.declared.data.Given.{Given}
use Rattle.sv_decl.specs.declared.data.Member.{Member}
use Rattle.sv_decl.specs.declared.data.Named.{Named}
use Rattle.sv_decl.specs.declared.data.Standing.{Standing}
use Rattle.sv_decl.specs.declared.data.Standing.TheVariants as standing
use Rattle.sv_base_args.specs.declared.given.UsePlace.TheVariants as place
use Rattle.sv_base_args.specs.BaseArguments.{args_break, misses_args}

-- byte n of a text of one line
abbrev byte : ℕ → Spot
byte n = record { span = record { from = n; to = n }; place = record { line = 1; col = n } }

-- so many arguments that begin at this byte
abbrev arguments : ℕ → ℕ → Option Given
arguments count n = Some (record { count = count; spot = byte n })

abbrev named : ℕ → Option Given → Named
named n given = record { name = n; given = given; spot = byte 0 }

abbrev param : Member
param = record { name = None; of_type = []; location = None; spot = byte 0 }

abbrev constructor_of : List Member → List Named → Declaration
constructor_of params uses = record { name = None; kind = kind.Callable (record { callable = callable.Constructor; params = params; results = []; words = []; uses = uses; has_body = true }); spot = byte 0 }

abbrev contract : ℕ → Standing → List Named → List Declaration → DeclaredContract
contract n s bases ds = record { name = n; standing = s; bases = bases; declarations = ds; spot = byte 0 }

-- contract A { constructor(uint256 a) { } }
abbrev base : DeclaredContract
base = contract 7 standing.Concrete [] (constructor_of (param ∷ []) [] ∷ [])

abbrev lines : List (Option (List ℕ))
lines = Some (0 ∷ []) ∷ Some (0 ∷ 1 ∷ []) ∷ []

-- .. contract B is A(1) { constructor() A(2) { } }
abbrev twice : List DeclaredContract
twice = base ∷ contract 8 standing.Concrete (named 7 (arguments 1 57) ∷ []) (constructor_of [] (named 7 (arguments 1 78) ∷ []) ∷ []) ∷ []

later_arguments_break : args_break twice lines 1 (place.Head 0 0) ≡ true
later_arguments_break = refl

earlier_arguments_keep : args_break twice lines 1 (place.Base 0) ≡ false
earlier_arguments_keep = refl

twice_given_is_given : misses_args twice lines 1 ≡ false
twice_given_is_given = refl

-- without a line for B nothing is asked
lineless_keeps : args_break twice (Some (0 ∷ []) ∷ None ∷ []) 1 (place.Head 0 0) ≡ false
lineless_keeps = refl

-- .. contract B is A { }
abbrev missing : Standing → List DeclaredContract
missing s = base ∷ contract 8 s (named 7 None ∷ []) [] ∷ []

a_contract_misses : misses_args (missing standing.Concrete) lines 1 ≡ true
a_contract_misses = refl

an_abstract_contract_waits : misses_args (missing standing.Abstract) lines 1 ≡ false
an_abstract_contract_waits = refl

-- its own arguments come when it is created
own_arguments_come_later : misses_args (missing standing.Concrete) lines 0 ≡ false
own_arguments_come_later = refl

-- .. contract B is A { constructor() A { } }
abbrev bare : List DeclaredContract
bare = base ∷ contract 8 standing.Concrete (named 7 None ∷ []) (constructor_of [] (named 7 None ∷ []) ∷ []) ∷ []

a_bare_name_gives_nothing : misses_args bare lines 1 ≡ true
a_bare_name_gives_nothing = refl

-- .. contract B is A() { }
abbrev empty : List DeclaredContract
empty = base ∷ contract 8 standing.Concrete (named 7 (arguments 0 57) ∷ []) [] ∷ []

empty_arguments_are_too_few : args_break empty lines 1 (place.Base 0) ≡ true
empty_arguments_are_too_few = refl

-- contract A { } contract B is A(), .. { constructor() A() { } }
abbrev empty_twice : List DeclaredContract
empty_twice = contract 7 standing.Concrete [] [] ∷ contract 8 standing.Concrete (named 7 (arguments 0 30) ∷ []) (constructor_of [] (named 7 (arguments 0 51) ∷ []) ∷ []) ∷ []

empty_arguments_count_too : args_break empty_twice lines 1 (place.Head 0 0) ≡ true
empty_arguments_count_too = refl

nothing_is_needed : misses_args (contract 7 standing.Concrete [] [] ∷ contract 8 standing.Concrete (named 7 None ∷ []) [] ∷ []) lines 1 ≡ false
nothing_is_needed = refl
