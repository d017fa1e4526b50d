-- Believed: what the types of a text are made of, and what their table promises. Hold it against Solidity's documentation, "Types".
use Rattle.std.specs.Prelude.{◌≡◌, ◌==◌, ◌<◌, ◌&&◌, Bool, true, false, List, [], ◌∷◌, Some, ℕ, All, slice_get}
use Rattle.std.specs.Bool.{beq}
use Rattle.sv_text_type.specs.declared.text_type.TypeId.{TypeId}
use Rattle.sv_text_type.specs.declared.text_type.TextType.{TextType}
use Rattle.sv_text_type.specs.declared.text_type.TextType.TheVariants as t

-- a variable of the type holds a value, and no reference
abbrev pub is_value : TextType → Bool
is_value t.Text = false
is_value (t.Struct number) = false
is_value (t.Fixed element n) = false
is_value (t.Dynamic element) = false
is_value (t.Mapping key value) = false
is_value _ = true

-- the two are one type
abbrev pub same_type : TextType → TextType → Bool
same_type (t.Uint m) (t.Uint n) = m == n
same_type (t.Int m) (t.Int n) = m == n
same_type t.Bool t.Bool = true
same_type (t.Address p) (t.Address q) = beq p q
same_type t.Text t.Text = true
same_type (t.Contract m) (t.Contract n) = m == n
same_type (t.Enum m) (t.Enum n) = m == n
same_type (t.Struct m) (t.Struct n) = m == n
same_type (t.Fixed e m) (t.Fixed f n) = e.0 == f.0 && m == n
same_type (t.Dynamic e) (t.Dynamic f) = e.0 == f.0
same_type (t.Mapping k v) (t.Mapping l w) = k.0 == l.0 && v.0 == w.0
same_type _ _ = false

-- the types that stand in the type's name
abbrev pub parts_of : TextType → List TypeId
parts_of (t.Fixed element n) = element ∷ []
parts_of (t.Dynamic element) = element ∷ []
parts_of (t.Mapping key value) = key ∷ value ∷ []
parts_of _ = []

-- the parts of a type are among the first n
abbrev pub HasParts : ℕ → TextType → Type 0
HasParts n t = All (λ p. p.0 < n) (parts_of t)

-- the parts of each type stand before it
abbrev pub IsOrdered : List TextType → Type 0
IsOrdered types = (n : ℕ) (t : TextType) → slice_get types n ≡ Some t → HasParts n t

-- no type stands twice
abbrev pub AreDistinct : List TextType → Type 0
AreDistinct types = (j k : ℕ) (t : TextType) → slice_get types j ≡ Some t → slice_get types k ≡ Some t → j ≡ k
