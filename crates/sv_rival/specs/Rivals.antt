-- Believed: which declarations are of one sort and name, in which contract, and what some contract of a line has. Hold it against the rules Override and Overload of docs/language.md: functions are held against functions, modifiers against modifiers, `receive` and `fallback` each against its like.
use Rattle.std.specs.Prelude.{ℕ, ◌==◌, ◌&&◌, nat_lt, not, Bool, true, false, Option, Some, None, List, [], slice_get, slice_index_or, zip}
use Rattle.std.specs.List.{list_any}
use Rattle.sv_decl.specs.declared.data.Callable.{Callable}
use Rattle.sv_decl.specs.declared.data.Callable.TheVariants as callable
use Rattle.sv_decl.specs.declared.data.Declaration.{Declaration}
use Rattle.sv_decl.specs.declared.data.DeclarationKind.{DeclarationKind}
use Rattle.sv_decl.specs.declared.data.DeclarationKind.TheVariants as kind
use Rattle.sv_decl.specs.declared.data.DeclaredContract.{DeclaredContract}
use Rattle.sv_typed.specs.declared.typed.TypedCallable.{TypedCallable}
use Rattle.sv_typed.specs.declared.typed.TypedContract.{TypedContract}
use Rattle.sv_typed.specs.TypedLists.{same_params}

-- ---- one sort and one name

abbrev pub sort_of : DeclarationKind → Option Callable
sort_of (kind.Callable s) = Some s.callable
sort_of _ = None

-- a constructor is like no other
abbrev pub same_sort : Option Callable → Option Callable → Bool
same_sort (Some callable.Function) (Some callable.Function) = true
same_sort (Some callable.Modifier) (Some callable.Modifier) = true
same_sort (Some callable.Special) (Some callable.Special) = true
same_sort _ _ = false

abbrev pub same_name : Option ℕ → Option ℕ → Bool
same_name (Some m) (Some n) = m == n
same_name _ _ = false

-- two functions of one name, or two modifiers; `receive` and `fallback` are named by their word
abbrev pub is_rival : Declaration → Declaration → Bool
is_rival f g = same_sort (sort_of f.kind) (sort_of g.kind) && same_name f.name g.name

abbrev pub is_function_sort : Option Callable → Bool
is_function_sort (Some callable.Function) = true
is_function_sort _ = false

abbrev pub is_function : Declaration → Bool
is_function f = is_function_sort (sort_of f.kind)

-- parameters without types are like no other
abbrev pub have_same_params : Option TypedCallable → Option TypedCallable → Bool
have_same_params (Some a) (Some b) = same_params a b
have_same_params _ _ = false

-- in the text, by the first byte
abbrev pub stands_before : Declaration → Declaration → Bool
stands_before g f = nat_lt g.spot.span.from f.spot.span.from

-- ---- in a contract

abbrev pub declared_in : Option DeclaredContract → List Declaration
declared_in None = []
declared_in (Some c) = c.declarations

abbrev pub declarations_of : List DeclaredContract → ℕ → List Declaration
declarations_of contracts c = declared_in (slice_get contracts c)

abbrev pub typed_in : Option TypedContract → List (Option TypedCallable)
typed_in None = []
typed_in (Some c) = c.callables

abbrev pub types_of : List TypedContract → ℕ → List (Option TypedCallable)
types_of typed c = typed_in (slice_get typed c)

-- each declaration with its types
abbrev pub typed_declarations : List DeclaredContract → List TypedContract → ℕ → List (Declaration × Option TypedCallable)
typed_declarations contracts typed c = zip (declarations_of contracts c) (types_of typed c)

-- contract d has one of the sort and name of f
abbrev pub has_rival : List DeclaredContract → Declaration → ℕ → Bool
has_rival contracts f d = list_any (is_rival f) (declarations_of contracts d)

-- ---- in a line, which goes from the most basic contract to the most derived

abbrev pub or_empty : Option (List ℕ) → List ℕ
or_empty None = []
or_empty (Some line) = line

abbrev pub line_of : List (Option (List ℕ)) → ℕ → List ℕ
line_of lines c = or_empty (slice_index_or lines c None)

abbrev pub has : List ℕ → ℕ → Bool
has line c = list_any (λ d. d == c) line

-- some contract other than c is such; in the line of c the others are the contracts above it
abbrev pub some_other : (ℕ → Bool) → List ℕ → ℕ → Bool
some_other test line c = list_any (λ d. not (d == c) && test d) line
