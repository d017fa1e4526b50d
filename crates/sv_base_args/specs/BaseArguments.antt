-- Believed: arguments for constructors of bases, along the lines of contracts. Hold it against the rule BaseArgs of docs/language.md.
use Rattle.std.specs.Prelude.{ℕ, Bool, true, false, nat_eq, nat_lt, not, cond, ◌&&◌, ◌||◌, Option, Some, None, List, [], ◌∷◌, length, slice_get, slice_index_or}
use Rattle.std.specs.List.{list_any}
use Rattle.sv_decl.specs.declared.data.Callable.{Callable}
use Rattle.sv_decl.specs.declared.data.Callable.TheVariants as callable
use Rattle.sv_decl.specs.declared.data.Declaration.{Declaration}
use Rattle.sv_decl.specs.declared.data.DeclarationKind.{DeclarationKind}
use Rattle.sv_decl.specs.declared.data.DeclarationKind.TheVariants as kind
use Rattle.sv_decl.specs.declared.data.DeclaredContract.{DeclaredContract}
use Rattle.sv_decl.specs.declared.data.Given.{Given}
use Rattle.sv_decl.specs.declared.data.Named.{Named}
use Rattle.sv_decl.specs.declared.data.Standing.{Standing}
use Rattle.sv_decl.specs.declared.data.Standing.TheVariants as standing
use Rattle.sv_base_args.specs.declared.given.Sought.{Sought}
use Rattle.sv_base_args.specs.declared.given.UsePlace.{UsePlace}
use Rattle.sv_base_args.specs.declared.given.UsePlace.TheVariants as place

-- ---- where arguments are given

abbrev pub is_constructor : Callable → Bool
is_constructor callable.Constructor = true
is_constructor callable.Function = false
is_constructor callable.Special = false
is_constructor callable.Modifier = false

-- behind a constructor stand bases, behind all else modifiers
abbrev pub behind : DeclarationKind → List Named
behind (kind.Callable s) = cond (is_constructor s.callable) s.uses []
behind (kind.Variable of_type words value) = []
behind (kind.Struct fields) = []
behind (kind.Enum names) = []
behind (kind.Event params) = []
behind (kind.Error params) = []

-- they begin before the byte, where one is said
abbrev pub begins : Option ℕ → Given → Bool
begins None g = true
begins (Some byte) g = nat_lt g.spot.span.from byte

abbrev pub is_sought_given : Sought → ℕ → Option Given → Bool
is_sought_given sought name None = false
is_sought_given sought name (Some g) = nat_eq name sought.name && begins sought.before g

-- a name with such arguments
abbrev pub is_sought : Sought → Named → Bool
is_sought sought u = is_sought_given sought u.name u.given

abbrev pub gives_behind : Sought → List Declaration → Bool
gives_behind sought = list_any (λ d. list_any (is_sought sought) (behind d.kind))

-- the contract gives such arguments, in its list of bases or behind a constructor
abbrev pub gives : Sought → DeclaredContract → Bool
gives sought c = list_any (is_sought sought) c.bases || gives_behind sought c.declarations

abbrev pub gives_in : Sought → Option DeclaredContract → Bool
gives_in sought None = false
gives_in sought (Some c) = gives sought c

-- one of the line does
abbrev pub is_given_along : List DeclaredContract → Sought → List ℕ → Bool
is_given_along contracts sought line = list_any (λ d. gives_in sought (slice_get contracts d)) line

-- ---- the name of a base at a place of a contract

abbrev pub use_in_kind : ℕ → Option Declaration → Option Named
use_in_kind at None = None
use_in_kind at (Some d) = slice_get (behind d.kind) at

abbrev pub use_behind : ℕ → ℕ → List Declaration → Option Named
use_behind declaration at ds = use_in_kind at (slice_get ds declaration)

abbrev pub use_in : UsePlace → DeclaredContract → Option Named
use_in (place.Base at) c = slice_get c.bases at
use_in (place.Head declaration at) c = use_behind declaration at c.declarations

abbrev pub use_of : UsePlace → Option DeclaredContract → Option Named
use_of p None = None
use_of p (Some c) = use_in p c

abbrev pub use_at : List DeclaredContract → ℕ → UsePlace → Option Named
use_at contracts c p = use_of p (slice_get contracts c)

-- ---- what a constructor takes

abbrev pub params_of : DeclarationKind → Option ℕ
params_of (kind.Callable s) = cond (is_constructor s.callable) (Some (length s.params)) None
params_of (kind.Variable of_type words value) = None
params_of (kind.Struct fields) = None
params_of (kind.Enum names) = None
params_of (kind.Event params) = None
params_of (kind.Error params) = None

abbrev pub or_else : Option ℕ → ℕ → ℕ
or_else None n = n
or_else (Some m) n = m

-- how many parameters the constructor has; one that isn't written has none
abbrev pub param_count : List Declaration → ℕ
param_count [] = 0
param_count (d ∷ ds) = or_else (params_of d.kind) (param_count ds)

-- a contract of the name takes another number
abbrev pub takes_other : List DeclaredContract → ℕ → ℕ → Bool
takes_other contracts name count = list_any (λ c. nat_eq c.name name && not (nat_eq (param_count c.declarations) count)) contracts

-- ---- the rule, at arguments

abbrev pub is_wrong_number : List DeclaredContract → ℕ → Given → Bool
is_wrong_number contracts name g = takes_other contracts name g.count

-- arguments for the same contract begin earlier in the text, in a contract of the line
abbrev pub is_given_twice : List DeclaredContract → List ℕ → ℕ → Given → Bool
is_given_twice contracts line name g = is_given_along contracts (record { name = name; before = Some g.spot.span.from }) line

abbrev pub is_of : ℕ → List ℕ → Bool
is_of c line = list_any (λ d. nat_eq d c) line

-- along one line, for arguments that contract c gives
abbrev pub breaks_along : List DeclaredContract → ℕ → ℕ → Given → Option (List ℕ) → Bool
breaks_along contracts c name g None = false
breaks_along contracts c name g (Some line) = is_of c line && (is_wrong_number contracts name g || is_given_twice contracts line name g)

abbrev pub breaks_any : List DeclaredContract → List (Option (List ℕ)) → ℕ → ℕ → Given → Bool
breaks_any contracts lines c name g = list_any (breaks_along contracts c name g) lines

abbrev pub given_break : List DeclaredContract → List (Option (List ℕ)) → ℕ → ℕ → Option Given → Bool
given_break contracts lines c name None = false
given_break contracts lines c name (Some g) = breaks_any contracts lines c name g

abbrev pub use_breaks : List DeclaredContract → List (Option (List ℕ)) → ℕ → Option Named → Bool
use_breaks contracts lines c None = false
use_breaks contracts lines c (Some u) = given_break contracts lines c u.name u.given

abbrev pub args_break : List DeclaredContract → List (Option (List ℕ)) → ℕ → UsePlace → Bool
args_break contracts lines c p = use_breaks contracts lines c (use_at contracts c p)

-- ---- the rule, at a contract

abbrev pub is_concrete : Standing → Bool
is_concrete standing.Concrete = true
is_concrete standing.Abstract = false
is_concrete standing.Interface = false

-- its constructor has parameters, and no contract of the line gives it arguments
abbrev pub is_missing : List DeclaredContract → List ℕ → Option DeclaredContract → Bool
is_missing contracts line None = false
is_missing contracts line (Some a) = nat_lt 0 (param_count a.declarations) && not (is_given_along contracts (record { name = a.name; before = None }) line)

-- a contract of the line other than c
abbrev pub misses_one_of : List DeclaredContract → ℕ → List ℕ → Bool
misses_one_of contracts c line = list_any (λ a. not (nat_eq a c) && is_missing contracts line (slice_get contracts a)) line

abbrev pub misses_along : List DeclaredContract → ℕ → Option (List ℕ) → Bool
misses_along contracts c None = false
misses_along contracts c (Some line) = misses_one_of contracts c line

abbrev pub can_be_made : Option DeclaredContract → Bool
can_be_made None = false
can_be_made (Some own) = is_concrete own.standing

abbrev pub misses_args : List DeclaredContract → List (Option (List ℕ)) → ℕ → Bool
misses_args contracts lines c = can_be_made (slice_get contracts c) && misses_along contracts c (slice_index_or lines c None)
