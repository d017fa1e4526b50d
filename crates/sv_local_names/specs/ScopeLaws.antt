-- Believed: what is true of scopes, whatever the definitions of `LocalScopes` do. Hold it against the sentence above each.
use Rattle.std.specs.Prelude.{ℕ, ◌≡◌, ◌≢◌, Bool, cond, nat_eq, Option, Some, None, List, [], ◌∷◌, ◌++◌}
use Rattle.std.specs.List.{AllByRecursion}
use Rattle.sv_local_names.specs.declared.names.Local.{Local}
use Rattle.sv_local_names.specs.LocalScopes.{Locals, entered, left, declared, found}

-- ---- what is found

-- it has the name, and none of the name stands behind it; none is found only where none has the name
pub record IsLast (name : ℕ) (ls : List Local) (l : Local) : Type 0 where
  pub front : List Local
  pub behind : List Local
  pub stands : ls ≡ front ++ l ∷ behind
  pub named : l.name ≡ name
  pub newest : AllByRecursion (λ (m : Local). m.name ≢ name) behind

abbrev pub IsFoundAmong : ℕ → List Local → Option Local → Type 0
IsFoundAmong name ls None = AllByRecursion (λ (m : Local). m.name ≢ name) ls
IsFoundAmong name ls (Some l) = IsLast name ls l

abbrev pub InnermostIsFound : Type 0
InnermostIsFound = (name : ℕ) (k : Locals) → IsFoundAmong name k.names (found name k)

-- ---- what a scope does

-- a name or none, and whether it is a result
pub record Declaring : Type 0 where
  pub name : Option ℕ
  pub is_result : Bool

abbrev pub all_declared : List Declaring → Locals → Locals
all_declared [] k = k
all_declared (d ∷ ds) k = all_declared ds (declared d.name d.is_result k)

-- behind a scope the names are those before it, and so are the scopes that are open
pub record AreAsBefore (before behind : Locals) : Type 0 where
  pub names : behind.names ≡ before.names
  pub starts : behind.starts ≡ before.starts

abbrev pub ScopeIsItsOwn : Type 0
ScopeIsItsOwn = (ds : List Declaring) (k : Locals) → AreAsBefore k (left (all_declared ds (entered k)))

-- a local that is declared is what its name means, and each other name means what it meant
abbrev pub NewestIsFound : Type 0
NewestIsFound = (n name : ℕ) (is_result : Bool) (k : Locals)
    → found name (declared (Some n) is_result k) ≡ cond (nat_eq n name) (Some (record { name = n; number = k.count; is_result = is_result })) (found name k)
