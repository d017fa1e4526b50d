-- Believed: when a function breaks the rule on overloads. Hold it against the rule Overload of docs/language.md.
use Rattle.std.specs.Prelude.{ℕ, ◌&&◌, not, Bool, false, Option, Some, List, slice_get}
use Rattle.std.specs.List.{list_any}
use Rattle.sv_decl.specs.declared.data.Declaration.{Declaration}
use Rattle.sv_decl.specs.declared.data.DeclaredContract.{DeclaredContract}
use Rattle.sv_typed.specs.declared.typed.TypedCallable.{TypedCallable}
use Rattle.sv_typed.specs.declared.typed.TypedContract.{TypedContract}
use Rattle.sv_rival.specs.Rivals.{is_function, is_rival, have_same_params, stands_before, declarations_of, types_of, typed_declarations, or_empty, has}

-- g is an earlier function of the name with other parameters
abbrev pub is_overload : Declaration → Option TypedCallable → Declaration × Option TypedCallable → Bool
is_overload f types (g, others) = is_rival f g && stands_before g f && not (have_same_params types others)

-- contract d has such a function
abbrev pub overloads_in : List DeclaredContract → List TypedContract → Declaration → Option TypedCallable → ℕ → Bool
overloads_in contracts typed f types d = list_any (is_overload f types) (typed_declarations contracts typed d)

-- some contract of the line does
abbrev pub overloads_within : List DeclaredContract → List TypedContract → Declaration → Option TypedCallable → List ℕ → Bool
overloads_within contracts typed f types line = list_any (overloads_in contracts typed f types) line

-- f is of contract c of the line, and some contract of the line has such a function
abbrev pub overloads_along : List DeclaredContract → List TypedContract → Declaration → Option TypedCallable → ℕ → List ℕ → Bool
overloads_along contracts typed f types c line = has line c && overloads_within contracts typed f types line

abbrev pub overloads_somewhere : List DeclaredContract → List TypedContract → List (Option (List ℕ)) → Declaration → Option TypedCallable → ℕ → Bool
overloads_somewhere contracts typed lines f types c = list_any (λ line. overloads_along contracts typed f types c (or_empty line)) lines

abbrev pub overloads : List DeclaredContract → List TypedContract → List (Option (List ℕ)) → ℕ → Declaration → Option TypedCallable → Bool
overloads contracts typed lines c f types = is_function f && overloads_somewhere contracts typed lines f types c

abbrev pub overloads_if : List DeclaredContract → List TypedContract → List (Option (List ℕ)) → ℕ → Option Declaration → Option (Option TypedCallable) → Bool
overloads_if contracts typed lines c (Some f) (Some types) = overloads contracts typed lines c f types
overloads_if contracts typed lines c _ _ = false

-- the declaration of contract c at this position breaks the rule
abbrev pub breaks_overload : List DeclaredContract → List TypedContract → List (Option (List ℕ)) → ℕ → ℕ → Bool
breaks_overload contracts typed lines c at = overloads_if contracts typed lines c (slice_get (declarations_of contracts c) at) (slice_get (types_of typed c) at)
