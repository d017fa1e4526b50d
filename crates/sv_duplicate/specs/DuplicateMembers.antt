-- Believed: when a member of an enum, a parameter, a result or a field has a name that stands before it. Hold it against the rule Duplicate of docs/language.md: parameters and results have one scope.
use Rattle.std.specs.Prelude.{ℕ, ◌==◌, ◌||◌, Bool, false, Option, Some, None, List, [], ◌∷◌, slice_get, take}
use Rattle.std.specs.List.{list_any}
use Rattle.sv_decl.specs.declared.data.DeclarationKind.{DeclarationKind}
use Rattle.sv_decl.specs.declared.data.DeclarationKind.TheVariants as kind
use Rattle.sv_decl.specs.declared.data.Member.{Member}
use Rattle.sv_rival.specs.Rivals.{same_name}

abbrev pub has_name : List ℕ → ℕ → Bool
has_name names n = list_any (λ m. m == n) names

-- a name stands before itself
abbrev pub has_twice : List ℕ → Bool
has_twice [] = false
has_twice (n ∷ ns) = has_name ns n || has_twice ns

-- an enum with a member twice
abbrev pub has_member_twice : DeclarationKind → Bool
has_member_twice (kind.Enum names) = has_twice names
has_member_twice _ = false

-- one of these has the name
abbrev pub names_one : List Member → Option ℕ → Bool
names_one members name = list_any (λ m. same_name name m.name) members

abbrev pub repeats_among : List Member → List Member → Option Member → Bool
repeats_among before members None = false
repeats_among before members (Some m) = names_one before m.name || names_one members m.name

-- the member at this position has the name of an earlier one, or of one of these before all
abbrev pub repeats_member : List Member → List Member → ℕ → Bool
repeats_member before members at = repeats_among before (take at members) (slice_get members at)
