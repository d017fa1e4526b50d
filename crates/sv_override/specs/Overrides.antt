-- Believed: when a function, a modifier, `receive` or `fallback` breaks the rule on overrides. Hold it against the rule Override of docs/language.md and Solidity's documentation, "Function Overriding".
use Rattle.std.specs.Prelude.{ℕ, ◌==◌, ◌&&◌, ◌||◌, not, Bool, true, false, Option, Some, None, List, reverse, slice_get, find}
use Rattle.std.specs.List.{list_any}
use Rattle.sv_decl.specs.declared.data.Declaration.{Declaration}
use Rattle.sv_decl.specs.declared.data.DeclaredContract.{DeclaredContract}
use Rattle.sv_decl.specs.declared.data.Standing.{Standing}
use Rattle.sv_decl.specs.declared.data.Standing.TheVariants as standing
use Rattle.sv_typed.specs.declared.typed.TypedCallable.{TypedCallable}
use Rattle.sv_typed.specs.declared.typed.TypedContract.{TypedContract}
use Rattle.sv_typed.specs.TypedLists.{same_params, same_results, same_locations}
use Rattle.sv_rival.specs.RivalWords.{is_external, is_override, is_virtual}
use Rattle.sv_rival.specs.Rivals.{is_function, is_rival, same_name, have_same_params, stands_before, declarations_of, types_of, typed_declarations, has_rival, or_empty, line_of, has, some_other}

-- ---- interfaces

abbrev pub is_interface_standing : Standing → Bool
is_interface_standing standing.Interface = true
is_interface_standing _ = false

abbrev pub is_interface_of : Option DeclaredContract → Bool
is_interface_of None = false
is_interface_of (Some d) = is_interface_standing d.standing

abbrev pub is_interface : List DeclaredContract → ℕ → Bool
is_interface contracts d = is_interface_of (slice_get contracts d)

-- ---- without `override`: f is of contract c, which has this line

-- a contract above, another than d, has one of the name
abbrev pub has_other : List DeclaredContract → Declaration → List ℕ → ℕ → ℕ → Bool
has_other contracts f line c d = some_other (λ e. not (e == d) && has_rival contracts f e) line c

-- contract d is an interface, and the only one above that has one of the name
abbrev pub is_lone_interface : List DeclaredContract → Declaration → List ℕ → ℕ → ℕ → Bool
is_lone_interface contracts f line c d = is_interface contracts d && not (has_other contracts f line c d)

-- a contract above has one of the name, and isn't such an interface
abbrev pub needs_override : List DeclaredContract → Declaration → List ℕ → ℕ → Bool
needs_override contracts f line c = some_other (λ d. has_rival contracts f d && not (is_lone_interface contracts f line c d)) line c

abbrev pub lacks_override : List DeclaredContract → Declaration → List ℕ → ℕ → Bool
lacks_override contracts f line c = not (is_override f) && needs_override contracts f line c

-- ---- of one that can't be overridden, or not so

-- parameters and results of the same types, and at the same locations where the overridden one isn't external
abbrev pub agrees : Bool → Option TypedCallable → Option TypedCallable → Bool
agrees external (Some a) (Some b) = same_params a b && same_results a b && (external || same_locations a b)
agrees external _ _ = false

-- g has the name, and isn't virtual by its contract nor by its words, or has other parameters or results
abbrev pub refuses : Bool → Declaration → Option TypedCallable → Declaration × Option TypedCallable → Bool
refuses by_contract f types (g, others) = is_rival f g && not ((by_contract || is_virtual g) && agrees (is_external g) types others)

-- contract d has such a one; all of an interface are virtual
abbrev pub refuses_in : List DeclaredContract → List TypedContract → Declaration → Option TypedCallable → ℕ → Bool
refuses_in contracts typed f types d = list_any (refuses (is_interface contracts d) f types) (typed_declarations contracts typed d)

-- a contract above does
abbrev pub is_refused : List DeclaredContract → List TypedContract → Declaration → Option TypedCallable → List ℕ → ℕ → Bool
is_refused contracts typed f types line c = some_other (refuses_in contracts typed f types) line c

-- ---- along a line, of contracts that don't derive from each other

-- the most derived contract of the line that has one of the name
abbrev pub heir : List DeclaredContract → Declaration → List ℕ → Option ℕ
heir contracts f line = find (has_rival contracts f) (reverse line)

-- contract c is the heir and doesn't derive from contract d
abbrev pub is_heir_apart : List (Option (List ℕ)) → Option ℕ → ℕ → ℕ → Bool
is_heir_apart lines h c d = same_name h (Some c) && not (has (line_of lines c) d)

-- of contract c and d one is the heir, and doesn't derive from the other
abbrev pub are_apart : List (Option (List ℕ)) → Option ℕ → ℕ → ℕ → Bool
are_apart lines h c d = is_heir_apart lines h c d || is_heir_apart lines h d c

-- g is an earlier one of the name; of two functions with other parameters the rule on overloads speaks
abbrev pub clashes : Declaration → Option TypedCallable → Declaration × Option TypedCallable → Bool
clashes f types (g, others) = is_rival f g && stands_before g f && (not (is_function f) || have_same_params types others)

-- contract d has such a one
abbrev pub clashes_in : List DeclaredContract → List TypedContract → Declaration → Option TypedCallable → ℕ → Bool
clashes_in contracts typed f types d = list_any (clashes f types) (typed_declarations contracts typed d)

-- another contract of the line that is apart from contract c has such a one; h is the heir of the line
abbrev pub clashes_beside : List DeclaredContract → List TypedContract → List (Option (List ℕ)) → Declaration → Option TypedCallable → ℕ → Option ℕ → List ℕ → Bool
clashes_beside contracts typed lines f types c h line = some_other (λ d. are_apart lines h c d && clashes_in contracts typed f types d) line c

-- f is of contract c of the line, and clashes in it
abbrev pub clashes_along : List DeclaredContract → List TypedContract → List (Option (List ℕ)) → Declaration → Option TypedCallable → ℕ → List ℕ → Bool
clashes_along contracts typed lines f types c line = has line c && clashes_beside contracts typed lines f types c (heir contracts f line) line

abbrev pub clashes_somewhere : List DeclaredContract → List TypedContract → List (Option (List ℕ)) → Declaration → Option TypedCallable → ℕ → Bool
clashes_somewhere contracts typed lines f types c = list_any (λ line. clashes_along contracts typed lines f types c (or_empty line)) lines

-- ---- the rule

abbrev pub breaks : List DeclaredContract → List TypedContract → List (Option (List ℕ)) → ℕ → Declaration → Option TypedCallable → Bool
breaks contracts typed lines c f types = lacks_override contracts f (line_of lines c) c || is_refused contracts typed f types (line_of lines c) c || clashes_somewhere contracts typed lines f types c

abbrev pub breaks_if : List DeclaredContract → List TypedContract → List (Option (List ℕ)) → ℕ → Option Declaration → Option (Option TypedCallable) → Bool
breaks_if contracts typed lines c (Some f) (Some types) = breaks contracts typed lines c f types
breaks_if contracts typed lines c _ _ = false

-- the declaration of contract c at this position breaks the rule
abbrev pub breaks_override : List DeclaredContract → List TypedContract → List (Option (List ℕ)) → ℕ → ℕ → Bool
breaks_override contracts typed lines c at = breaks_if contracts typed lines c (slice_get (declarations_of contracts c) at) (slice_get (types_of typed c) at)
