-- Believed: when the list of a contract's types is formed. Hold it against Solidity's documentation, "Types". Behind each clause stands what would go wrong without it.
use Rattle.std.specs.Prelude.{◌≡◌, ◌≤◌, ◌<◌, ◌*◌, ◌^◌, ◌⊎◌, ℕ, Bool, true, false, List, Some, Contains, length, slice_get}
use Rattle.sv_type.specs.declared.info.TypeInfo.{TypeInfo}
use Rattle.sv_type.specs.declared.info.TypeInfo.TheVariants.{Uint, Int, Bool as BoolType, Enum, Struct, Fixed, Dynamic, Mapping}
use Rattle.sv_type.specs.TypeParts.{IsOrdered, ContainsType, IsValueType}

-- the number stands for this type
abbrev pub IsType : List TypeInfo → ℕ → TypeInfo → Type 0
IsType types t info = slice_get types t ≡ Some info

-- 8, 16 and so on to 256
abbrev pub IsWidth : ℕ → Type 0
IsWidth bits = (n : ℕ) × (bits ≡ 8 * n) × (1 ≤ n) × (n ≤ 32)

-- mappings are in it
abbrev pub HasMapping : List TypeInfo → ℕ → Type 0
HasMapping types t = (m : ℕ) × ((k : ℕ) × ((v : ℕ) × (ContainsType types t m × IsType types m (Mapping k v))))

-- a type by itself
abbrev pub InfoFormed : List TypeInfo → TypeInfo → Type 0
InfoFormed types (Uint bits) = IsWidth bits  -- else its range isn't that of a type of the language
InfoFormed types (Int bits) = IsWidth bits  -- the same
InfoFormed types (Enum members) = (1 ≤ members) × (members ≤ 256)  -- else no number, or one over 255, would be a member
InfoFormed types (Struct fields) = 1 ≤ length fields  -- else a default object couldn't be told from one made of fields
InfoFormed types (Fixed element n) = (1 ≤ n) × (n ≤ 2 ^ 63) × (HasMapping types element → ⊥)  -- else an array without elements, or mappings in an array, which nothing resets
InfoFormed types (Dynamic element) = HasMapping types element → ⊥  -- the same
InfoFormed types (Mapping key value) = IsValueType types key  -- else a key is no number
InfoFormed types _ = Unit {0}

-- declared structs and enums have a number each, also where two are alike
abbrev pub is_declared : TypeInfo → Bool
is_declared (Enum members) = true
is_declared (Struct fields) = true
is_declared _ = false

pub record TypesFormed (types : List TypeInfo) : Type 0 where
  pub few : length types < 2 ^ 32  -- else a number names no type
  pub ordered : IsOrdered types  -- else a type could contain itself, and have no default
  pub each : (t : ℕ) (info : TypeInfo) → IsType types t info → InfoFormed types info
  pub once : (t u : ℕ) (info : TypeInfo) → IsType types t info → IsType types u info → (t ≡ u) ⊎ (is_declared info ≡ true)  -- else a write through a pointer could miss a variable of an equal type
  pub has_bool : Contains types BoolType  -- else an expression that gives no value has no type
