-- Believed: what a type is made of, what it contains, and which types are flat. Hold it against Solidity's documentation, "Types".
use Rattle.std.specs.Prelude.{◌≡◌, ◌<◌, Bool, true, false, List, [], ◌∷◌, Option, Some, None, ℕ, All, Contains, slice_get}
use Rattle.sv_type.specs.declared.info.TypeInfo.{TypeInfo}
use Rattle.sv_type.specs.declared.info.TypeInfo.TheVariants.{Struct, Fixed, Dynamic, Mapping}

-- a variable of the type holds a value, and no reference
abbrev pub is_value : TypeInfo → Bool
is_value (Struct fields) = false
is_value (Fixed element n) = false
is_value (Dynamic element) = false
is_value (Mapping key value) = false
is_value _ = true

-- the types that stand in the type's name
abbrev pub parts_of : TypeInfo → List ℕ
parts_of (Struct fields) = fields
parts_of (Fixed element n) = element ∷ []
parts_of (Dynamic element) = element ∷ []
parts_of (Mapping key value) = key ∷ value ∷ []
parts_of _ = []

-- the types of the variables that a variable of the type consists of: its fields, its elements, or the values of a mapping. The keys of a mapping are stored nowhere
abbrev pub held_by : TypeInfo → List ℕ
held_by (Struct fields) = fields
held_by (Fixed element n) = element ∷ []
held_by (Dynamic element) = element ∷ []
held_by (Mapping key value) = value ∷ []
held_by _ = []

-- an array's element type
abbrev pub element_of : TypeInfo → Option ℕ
element_of (Fixed element n) = Some element
element_of (Dynamic element) = Some element
element_of _ = None

-- the parts of each type stand before it
abbrev pub IsOrdered : List TypeInfo → Type 0
IsOrdered types = (t : ℕ) (info : TypeInfo) → slice_get types t ≡ Some info → All (λ p. p < t) (parts_of info)

-- a variable of type t has one of type p directly in it
abbrev pub Holds : List TypeInfo → ℕ → ℕ → Type 0
Holds types t p = (info : TypeInfo) × (slice_get types t ≡ Some info) × Contains (held_by info) p

-- from type t one comes to the type `part` by going into a field, an element or a value at each step of the way
abbrev pub LeadsTo : List TypeInfo → ℕ → List ℕ → ℕ → Type 0
LeadsTo types t [] part = t ≡ part
LeadsTo types t (p ∷ way) part = Holds types t p × LeadsTo types p way part

-- a type contains itself, and all that one comes to from it
abbrev pub ContainsType : List TypeInfo → ℕ → ℕ → Type 0
ContainsType types t part = (way : List ℕ) × LeadsTo types t way part

-- t is an array, fixed or not, whose elements have type e
abbrev pub IsArrayOf : List TypeInfo → ℕ → ℕ → Type 0
IsArrayOf types t e = (info : TypeInfo) × (slice_get types t ≡ Some info) × (element_of info ≡ Some e)

-- a type of values
abbrev pub IsValueType : List TypeInfo → ℕ → Type 0
IsValueType types t = (info : TypeInfo) × (slice_get types t ≡ Some info) × (is_value info ≡ true)

-- each array in it has elements that are values
abbrev pub IsFlat : List TypeInfo → ℕ → Type 0
IsFlat types t = (a e : ℕ) → ContainsType types t a → IsArrayOf types a e → IsValueType types e
