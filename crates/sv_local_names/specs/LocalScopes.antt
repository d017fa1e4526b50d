-- Believed: the locals of a function that are in scope, and what a name means among them. Hold it against Solidity's documentation, "Scoping and Declarations": a local is in scope from behind its declaration to the end of the scope around it, and hides outer ones of its name.
use Rattle.std.specs.Prelude.{ℕ, ◌+◌, ◌-◌, Bool, nat_eq, cond, Option, Some, None, List, [], ◌∷◌, ◌++◌, length, take, drop, slice_index_or}
use Rattle.std.specs.Option.{is_some}
use Rattle.sv_local_names.specs.declared.names.Local.{Local}

pub record Locals : Type 0 where
  -- those in scope, in order of the text, so the innermost last
  pub names : List Local
  -- of each open scope how many of these stand before it, the innermost last
  pub starts : List ℕ
  -- how many locals the function had so far, those without a name too
  pub count : ℕ

abbrev pub locals : List Local → List ℕ → ℕ → Locals
locals ls starts n = record { names = ls; starts = starts; count = n }

abbrev pub no_locals : Locals
no_locals = locals [] [] 0

-- ---- scopes

abbrev pub entered : Locals → Locals
entered k = locals k.names (k.starts ++ length k.names ∷ []) k.count

-- of the innermost scope; 0 where none is open
abbrev pub start_of : Locals → ℕ
start_of k = slice_index_or k.starts (length k.starts - 1) 0

abbrev pub left : Locals → Locals
left k = locals (take (start_of k) k.names) (take (length k.starts - 1) k.starts) k.count

-- ---- declarations

abbrev pub local : ℕ → ℕ → Bool → Local
local name number is_result = record { name = name; number = number; is_result = is_result }

abbrev pub with_name : Option ℕ → ℕ → Bool → List Local → List Local
with_name None number is_result ls = ls
with_name (Some name) number is_result ls = ls ++ local name number is_result ∷ []

-- one without a name is counted, and found by none
abbrev pub declared : Option ℕ → Bool → Locals → Locals
declared name is_result k = locals (with_name name k.count is_result k.names) k.starts (k.count + 1)

-- ---- names

abbrev pub or_else : {X : Type 0} → Option X → Option X → Option X
or_else None o = o
or_else (Some x) o = Some x

abbrev pub named : ℕ → Local → Option Local
named name l = cond (nat_eq l.name name) (Some l) None

-- the last of the name
abbrev pub last_named : ℕ → List Local → Option Local
last_named name [] = None
last_named name (l ∷ ls) = or_else (last_named name ls) (named name l)

-- what the name means among the locals in scope
abbrev pub found : ℕ → Locals → Option Local
found name k = last_named name k.names

abbrev pub in_scope : Locals → List Local
in_scope k = drop (start_of k) k.names

-- whether the innermost scope has the name
abbrev pub is_taken : ℕ → Locals → Bool
is_taken name k = is_some (last_named name (in_scope k))
