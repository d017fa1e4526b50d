-- Believed: types with their parts written out, the numbers of a value type, and what a type contains. Hold it against Solidity's documentation, "Types".
use Rattle.std.specs.Prelude.{◌≡◌, ◌⊎◌, ℕ, zero, suc, ◌-◌, ◌^◌, Bool, true, false, not, ◌&&◌, ◌||◌, List, [], ◌∷◌, ◌++◌, length, slice_index_or, nat_le, ℤ, pos, neg_ℤ, int_le}
use Rattle.sv_type.specs.declared.info.TypeInfo.{TypeInfo}
use Rattle.sv_type.specs.declared.info.TypeInfo.TheVariants as info

-- what the numbers of a value type stand for. An address and a contract are numbers too, a bool is 0 or 1
pub data Kind : Type 0 where
  Unsigned : (bits : ℕ) → Kind
  Signed : (bits : ℕ) → Kind
  Truth : Kind
  Account : Kind
  Member : (members : ℕ) → Kind

-- a type, each with its place in the list of types: two structs with the same fields are two types
mutual
  pub data Shape : Type 0 where
    Number : (id : ℕ) (kind : Kind) → Shape
    Fields : (id : ℕ) (ss : Shapes) → Shape
    Fixed : (id n : ℕ) (s : Shape) → Shape
    Dynamic : (id : ℕ) (s : Shape) → Shape
    Mapping : (id : ℕ) (s : Shape) → Shape

  pub data Shapes : Type 0 where
    NoShapes : Shapes
    ShapeAnd : (s : Shape) (ss : Shapes) → Shapes

-- what stands for a type that is not there
abbrev pub no_shape : Shape
no_shape = Number 0 Truth

abbrev pub id_of : Shape → ℕ
id_of (Number id kind) = id
id_of (Fields id ss) = id
id_of (Fixed id n s) = id
id_of (Dynamic id s) = id
id_of (Mapping id s) = id

abbrev pub ids_of : Shapes → List ℕ
ids_of NoShapes = []
ids_of (ShapeAnd s ss) = id_of s ∷ ids_of ss

-- ---- the types of a list

abbrev pub shapes_at : List Shape → List ℕ → Shapes
shapes_at before [] = NoShapes
shapes_at before (t ∷ ts) = ShapeAnd (slice_index_or before t no_shape) (shapes_at before ts)

-- the shape of the type that comes after these
abbrev pub shape_after : List Shape → TypeInfo → Shape
shape_after before (info.Uint bits) = Number (length before) (Unsigned bits)
shape_after before (info.Int bits) = Number (length before) (Signed bits)
shape_after before info.Bool = Number (length before) Truth
shape_after before (info.Address payable) = Number (length before) Account
shape_after before (info.Contract contract) = Number (length before) Account
shape_after before (info.Enum members) = Number (length before) (Member members)
shape_after before (info.Struct fields) = Fields (length before) (shapes_at before fields)
shape_after before (info.Fixed element n) = Fixed (length before) n (slice_index_or before element no_shape)
shape_after before (info.Dynamic element) = Dynamic (length before) (slice_index_or before element no_shape)
shape_after before (info.Mapping key value) = Mapping (length before) (slice_index_or before value no_shape)

abbrev pub shapes_from : List Shape → List TypeInfo → List Shape
shapes_from before [] = before
shapes_from before (i ∷ is) = shapes_from (before ++ shape_after before i ∷ []) is

-- the shapes of a list of types in which the parts of a type stand before it
abbrev pub shapes_of : List TypeInfo → List Shape
shapes_of types = shapes_from [] types

abbrev pub shape_of : List TypeInfo → ℕ → Shape
shape_of types t = slice_index_or (shapes_of types) t no_shape

-- ---- parts

abbrev pub shape_of_field : ℕ → Shapes → Shape
shape_of_field k NoShapes = no_shape
shape_of_field zero (ShapeAnd s ss) = s
shape_of_field (suc k) (ShapeAnd s ss) = shape_of_field k ss

abbrev pub count : Shapes → ℕ
count NoShapes = 0
count (ShapeAnd s ss) = suc (count ss)

-- a type has this one in it, as itself, a field, an element or a value of a mapping
abbrev mutual
  pub HasShape : ℕ → Shape → Type 0
  HasShape t (Number id kind) = id ≡ t
  HasShape t (Fields id ss) = (id ≡ t) ⊎ HaveShape t ss
  HasShape t (Fixed id n s) = (id ≡ t) ⊎ HasShape t s
  HasShape t (Dynamic id s) = (id ≡ t) ⊎ HasShape t s
  HasShape t (Mapping id s) = (id ≡ t) ⊎ HasShape t s

  pub HaveShape : ℕ → Shapes → Type 0
  HaveShape t NoShapes = ⊥
  HaveShape t (ShapeAnd s ss) = HasShape t s ⊎ HaveShape t ss

abbrev pub is_value_shape : Shape → Bool
is_value_shape (Number id kind) = true
is_value_shape _ = false

-- ---- numbers

-- the least and the greatest number of a type, as Solidity has them. An enum takes a byte: only a conversion looks at its members
abbrev pub least : Kind → ℤ
least (Signed bits) = neg_ℤ (pos (2 ^ (bits - 1)))
least _ = pos 0

abbrev pub greatest : Kind → ℤ
greatest (Unsigned bits) = pos (2 ^ bits - 1)
greatest (Signed bits) = pos (2 ^ (bits - 1) - 1)
greatest Truth = pos 1
greatest Account = pos (2 ^ 160 - 1)
greatest (Member members) = pos 255

abbrev pub is_in_type : Kind → ℤ → Bool
is_in_type kind z = int_le (least kind) z && int_le z (greatest kind)

-- an integer type of more than 120 bits is wide
abbrev pub is_narrow : ℕ → Bool
is_narrow bits = nat_le bits 120

-- which bounds the rules know: of a wide unsigned type, an address and a contract only the lower one, of a wide signed type none
abbrev pub has_least : Kind → Bool
has_least (Signed bits) = is_narrow bits
has_least _ = true

abbrev pub has_greatest : Kind → Bool
has_greatest (Unsigned bits) = is_narrow bits
has_greatest (Signed bits) = is_narrow bits
has_greatest Account = false
has_greatest _ = true

-- the number is within the known bounds
abbrev pub is_well_typed : Kind → ℤ → Bool
is_well_typed kind z = (not (has_least kind) || int_le (least kind) z) && (not (has_greatest kind) || int_le z (greatest kind))
