-- Believed: when a declaration of a contract, or of the text outside of contracts, has a name that its scope has already. Hold it against the rule Duplicate of docs/language.md and Solidity's documentation, "Scoping and Declarations".
use Rattle.std.specs.Prelude.{ℕ, ◌&&◌, ◌||◌, nat_lt, not, Bool, true, false, Option, Some, None, List, slice_get}
use Rattle.std.specs.List.{list_any}
use Rattle.sv_decl.specs.declared.data.Callable.{Callable}
use Rattle.sv_decl.specs.declared.data.Callable.TheVariants as callable
use Rattle.sv_decl.specs.declared.data.Declaration.{Declaration}
use Rattle.sv_decl.specs.declared.data.DeclarationKind.{DeclarationKind}
use Rattle.sv_decl.specs.declared.data.DeclarationKind.TheVariants as kind
use Rattle.sv_decl.specs.declared.data.DeclaredContract.{DeclaredContract}
use Rattle.sv_decl.specs.declared.data.DeclaredText.{DeclaredText}
use Rattle.sv_member.specs.SeenNames.{is_private}
use Rattle.sv_rival.specs.Rivals.{sort_of, same_name, is_rival, is_function, have_same_params, stands_before, declarations_of, types_of, typed_declarations, or_empty, line_of, has, some_other}
use Rattle.sv_rival.specs.RivalWords.{is_public, is_external}
use Rattle.sv_typed.specs.declared.typed.TypedCallable.{TypedCallable}
use Rattle.sv_typed.specs.declared.typed.TypedContract.{TypedContract}
use Rattle.sv_duplicate.specs.DuplicateMembers.{has_member_twice}

-- ---- in one contract

abbrev pub is_constructor_sort : Option Callable → Bool
is_constructor_sort (Some callable.Constructor) = true
is_constructor_sort _ = false

abbrev pub is_constructor : Declaration → Bool
is_constructor f = is_constructor_sort (sort_of f.kind)

-- one name, or both are constructors, which have none
abbrev pub are_alike : Declaration → Declaration → Bool
are_alike f g = same_name f.name g.name || (is_constructor f && is_constructor g)

-- g stands before and is alike; of two functions with other parameters the rule on overloads speaks
abbrev pub repeats : Declaration → Option TypedCallable → Declaration × Option TypedCallable → Bool
repeats f types (g, others) = are_alike f g && stands_before g f && (not (is_function f && is_function g) || have_same_params types others)

abbrev pub repeats_in : List DeclaredContract → List TypedContract → Declaration → Option TypedCallable → ℕ → Bool
repeats_in contracts typed f types c = list_any (repeats f types) (typed_declarations contracts typed c)

-- ---- along a line

abbrev pub is_variable_kind : DeclarationKind → Bool
is_variable_kind (kind.Variable of_type words value) = true
is_variable_kind _ = false

abbrev pub is_public_variable : Declaration → Bool
is_public_variable f = is_variable_kind f.kind && is_public f

abbrev pub lacks_body : DeclarationKind → Bool
lacks_body (kind.Callable s) = not s.has_body
lacks_body _ = false

-- an external function without a body, for which a public variable may stand
abbrev pub is_request : Declaration → Bool
is_request g = is_function g && is_external g && lacks_body g.kind

-- f is a public variable that stands for g, of a contract that the variable's contract derives from or doesn't
abbrev pub stands_for : Bool → Declaration → Declaration → Bool
stands_for derives f g = derives && is_public_variable f && is_request g

-- g of another contract has the name, stands before and isn't private; of two functions or two modifiers the rules on overrides and overloads speak
abbrev pub meets : Bool → Declaration → Declaration → Bool
meets derives f g = same_name f.name g.name && stands_before g f && not (is_private g) && not (is_rival f g) && not (stands_for derives f g)

-- contract d has such a one; f is of contract c
abbrev pub meets_in : List DeclaredContract → List (Option (List ℕ)) → Declaration → ℕ → ℕ → Bool
meets_in contracts lines f c d = list_any (meets (has (line_of lines c) d) f) (declarations_of contracts d)

-- another contract of the line has
abbrev pub meets_beside : List DeclaredContract → List (Option (List ℕ)) → Declaration → ℕ → List ℕ → Bool
meets_beside contracts lines f c line = some_other (meets_in contracts lines f c) line c

abbrev pub meets_along : List DeclaredContract → List (Option (List ℕ)) → Declaration → ℕ → List ℕ → Bool
meets_along contracts lines f c line = has line c && meets_beside contracts lines f c line

abbrev pub meets_somewhere : List DeclaredContract → List (Option (List ℕ)) → Declaration → ℕ → Bool
meets_somewhere contracts lines f c = list_any (λ line. meets_along contracts lines f c (or_empty line)) lines

-- a private one is seen along the line of its own contract alone
abbrev pub is_met : List DeclaredContract → List (Option (List ℕ)) → Declaration → ℕ → Bool
is_met contracts lines f c = meets_along contracts lines f c (line_of lines c) || (not (is_private f) && meets_somewhere contracts lines f c)

-- ---- the rule, in a contract

abbrev pub breaks : List DeclaredContract → List TypedContract → List (Option (List ℕ)) → ℕ → Declaration → Option TypedCallable → Bool
breaks contracts typed lines c f types = has_member_twice f.kind || repeats_in contracts typed f types c || is_met contracts lines f c

abbrev pub breaks_if : List DeclaredContract → List TypedContract → List (Option (List ℕ)) → ℕ → Option Declaration → Option (Option TypedCallable) → Bool
breaks_if contracts typed lines c (Some f) (Some types) = breaks contracts typed lines c f types
breaks_if contracts typed lines c _ _ = false

-- the declaration of contract c at this position breaks the rule
abbrev pub breaks_duplicate : List DeclaredContract → List TypedContract → List (Option (List ℕ)) → ℕ → ℕ → Bool
breaks_duplicate contracts typed lines c at = breaks_if contracts typed lines c (slice_get (declarations_of contracts c) at) (slice_get (types_of typed c) at)

-- ---- outside of contracts: contracts and what stands outside of them have one scope

abbrev pub is_earlier_contract : Option ℕ → ℕ → DeclaredContract → Bool
is_earlier_contract name byte d = same_name name (Some d.name) && nat_lt d.spot.span.from byte

abbrev pub is_earlier_declaration : Option ℕ → ℕ → Declaration → Bool
is_earlier_declaration name byte g = same_name name g.name && nat_lt g.spot.span.from byte

abbrev pub taken_by_contract : List DeclaredContract → Option ℕ → ℕ → Bool
taken_by_contract contracts name byte = list_any (is_earlier_contract name byte) contracts

abbrev pub taken_by_declaration : List Declaration → Option ℕ → ℕ → Bool
taken_by_declaration outside name byte = list_any (is_earlier_declaration name byte) outside

-- a contract or what stands outside has the name and begins before this byte
abbrev pub is_taken : DeclaredText → Option ℕ → ℕ → Bool
is_taken text name byte = taken_by_contract text.contracts name byte || taken_by_declaration text.outside name byte

abbrev pub repeats_contract : DeclaredText → Option DeclaredContract → Bool
repeats_contract text None = false
repeats_contract text (Some c) = is_taken text (Some c.name) c.spot.span.from

abbrev pub repeats_outside : DeclaredText → Option Declaration → Bool
repeats_outside text None = false
repeats_outside text (Some f) = has_member_twice f.kind || is_taken text f.name f.spot.span.from
