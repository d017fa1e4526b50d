-- Believed: when the parameters or the results of two functions agree. Hold it against Solidity's documentation, "Function Overriding": an override has parameters and results of the same types and locations.
use Rattle.std.specs.Prelude.{◌==◌, ◌&&◌, Bool, true, false, Option, Some, None, List, length, zip}
use Rattle.std.specs.List.{list_all}
use Rattle.sv_ast.specs.declared.types.WhereKind.{WhereKind}
use Rattle.sv_ast.specs.declared.types.WhereKind.TheVariants as where_kind
use Rattle.sv_text_type.specs.declared.text_type.TypeId.{TypeId}
use Rattle.sv_typed.specs.declared.typed.TypedCallable.{TypedCallable}
use Rattle.sv_typed.specs.declared.typed.TypedMember.{TypedMember}

abbrev pub all_pairs : (TypedMember → TypedMember → Bool) → List TypedMember → List TypedMember → Bool
all_pairs test xs ys = list_all (λ p. test p.0 p.1) (zip xs ys)

-- there are as many, and each agrees with the other's at its place
abbrev pub agree : (TypedMember → TypedMember → Bool) → List TypedMember → List TypedMember → Bool
agree test xs ys = length xs == length ys && all_pairs test xs ys

-- ---- types: two are one where their numbers are one, and an unknown one is no other's

abbrev pub same_number : Option TypeId → Option TypeId → Bool
same_number (Some s) (Some t) = s.0 == t.0
same_number _ _ = false

abbrev pub same_type : TypedMember → TypedMember → Bool
same_type a b = same_number a.of_type b.of_type

-- ---- locations

abbrev pub same_where : WhereKind → WhereKind → Bool
same_where where_kind.Storage where_kind.Storage = true
same_where where_kind.Memory where_kind.Memory = true
same_where where_kind.Calldata where_kind.Calldata = true
same_where _ _ = false

abbrev pub same_place : Option WhereKind → Option WhereKind → Bool
same_place None None = true
same_place (Some v) (Some w) = same_where v w
same_place _ _ = false

abbrev pub same_location : TypedMember → TypedMember → Bool
same_location a b = same_place a.location b.location

-- ---- of two functions

abbrev pub same_params : TypedCallable → TypedCallable → Bool
same_params a b = agree same_type a.params b.params

abbrev pub same_results : TypedCallable → TypedCallable → Bool
same_results a b = agree same_type a.results b.results

abbrev pub same_locations : TypedCallable → TypedCallable → Bool
same_locations a b = agree same_location a.params b.params && agree same_location a.results b.results
