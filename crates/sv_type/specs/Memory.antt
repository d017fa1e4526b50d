-- Believed: memory objects, and deep copies of storage into memory and back. Hold it against Solidity's documentation, "Data location and assignment behaviour": storage to memory makes an independent copy, and so does memory to storage.
use Rattle.std.specs.Prelude.{◌≡◌, ℕ, suc, ◌<◌, Bool, true, false, ◌&&◌, cond, List, [], ◌∷◌, Option, Some, None, nat_eq, ℤ, pos, negsuc, int_le}
use Rattle.sv_type.specs.Shapes.{Shape, Number, Fields, Fixed, Dynamic, Mapping, Shapes, NoShapes, ShapeAnd, is_well_typed, is_value_shape}
use Rattle.sv_type.specs.StorageTrees.{Tree, Num, Struct, Arr, Trees, End, Field, Empty, nil, entry, number}
use Rattle.sv_type.specs.TypedTrees.{Each, as_nat, filled, assigned}

-- an object of a type: a tree of one level. A field of a reference type holds the number of another object
pub record Object : Type 0 where
  pub t : ℕ
  pub at : ℕ
  pub cells : Tree

-- how many objects were made, and those that are there, of which the first of a type and a number counts
pub record Memory : Type 0 where
  pub count : ℕ
  pub objects : List Object

abbrev pub empty_memory : Memory
empty_memory = record { count = 0; objects = [] }

abbrev pub find : ℕ → ℕ → List Object → Option Tree
find t r [] = None
find t r (o ∷ os) = cond (nat_eq t o.t && nat_eq r o.at) (Some o.cells) (find t r os)

-- the object of a type that a reference names, if there is one
abbrev pub object_at : ℕ → ℤ → Memory → Option Tree
object_at t (pos r) m = find t r m.objects
object_at t (negsuc r) m = None

abbrev pub with_object : ℕ → ℤ → Tree → Memory → Memory
with_object t r cells m = record { count = m.count; objects = record { t = t; at = as_nat r; cells = cells } ∷ m.objects }

-- a reference, and the memory that it belongs to
pub record Made : Type 0 where
  pub reference : ℤ
  pub memory : Memory

-- a new object stands at the count, which rises by 1
abbrev pub fresh : ℕ → Tree → Memory → Made
fresh t cells m =
    record {
      reference = pos m.count;
      memory = record { count = suc m.count; objects = record { t = t; at = m.count; cells = cells } ∷ m.objects };
    }

-- ---- `in`: from a tree to objects

-- the elements below the length, and 0 past it
abbrev pub elements : Tree → Tree
elements (Arr n es d) = Arr n (filled (as_nat n) (λ i. entry i es d) Empty) nil
elements t = t

pub record MadeAll : Type 0 where
  pub cells : Trees
  pub memory : Memory

-- one new object for each struct and array of the tree, the parts before the whole. A number stays what it is
abbrev mutual
  pub into : Shape → Tree → Memory → Made
  into (Number id kind) t m = record { reference = number t; memory = m }
  into (Fields id ss) (Struct ts) m = let parts = all_into ss ts m in fresh id (Struct parts.cells) parts.memory
  into (Fixed id n s) t m = fresh id (elements t) m
  into (Dynamic id s) t m = fresh id (elements t) m
  into _ t m = record { reference = pos 0; memory = m }

  pub all_into : Shapes → Trees → Memory → MadeAll
  all_into (ShapeAnd s ss) (Field t ts) m =
      let first = into s t m in
      let others = all_into ss ts first.memory in
      record { cells = Field (Num first.reference) others.cells; memory = others.memory }
  all_into _ ts m = record { cells = End; memory = m }

-- ---- `out`: from objects to a tree

abbrev pub with_some : {A B : Type 0} → Option A → (A → Option B) → Option B
with_some None f = None
with_some (Some x) f = f x

abbrev pub cells_of : Tree → Trees
cells_of (Struct ts) = ts
cells_of _ = End

-- the tree that a reference stands for; none where some object is not there
abbrev mutual
  pub tree_of : Memory → Shape → ℤ → Option Tree
  tree_of m (Number id kind) z = Some (Num z)
  tree_of m (Fields id ss) r = with_some (object_at id r m) (λ o. with_some (trees_of m ss (cells_of o)) (λ ts. Some (Struct ts)))
  tree_of m (Fixed id n s) r = object_at id r m
  tree_of m (Dynamic id s) r = object_at id r m
  tree_of m (Mapping id s) r = None

  pub trees_of : Memory → Shapes → Trees → Option Trees
  trees_of m (ShapeAnd s ss) (Field c cs) = with_some (tree_of m s (number c)) (λ t. with_some (trees_of m ss cs) (λ ts. Some (Field t ts)))
  trees_of m _ cs = Some End

-- written over the old tree, once that is cleared
abbrev pub out : Memory → Shape → ℤ → Tree → Option Tree
out m s r old = with_some (tree_of m s r) (λ t. Some (assigned s t old))

-- ---- types in memory

-- each array has values as elements, and there is no mapping
abbrev mutual
  pub is_memory_shape : Shape → Bool
  is_memory_shape (Number id kind) = true
  is_memory_shape (Fields id ss) = are_memory_shapes ss
  is_memory_shape (Fixed id n s) = is_value_shape s
  is_memory_shape (Dynamic id s) = is_value_shape s
  is_memory_shape (Mapping id s) = false

  pub are_memory_shapes : Shapes → Bool
  are_memory_shapes NoShapes = true
  are_memory_shapes (ShapeAnd s ss) = is_memory_shape s && are_memory_shapes ss

-- a number of the type, or a reference, which is any number of at least 0
abbrev pub CellFits : Shape → Tree → Type 0
CellFits (Number id kind) (Num z) = is_well_typed kind z ≡ true
CellFits _ (Num z) = int_le (pos 0) z ≡ true
CellFits _ _ = ⊥

abbrev pub CellsFit : Shapes → Trees → Type 0
CellsFit NoShapes End = Unit {0}
CellsFit (ShapeAnd s ss) (Field c cs) = CellFits s c × CellsFit ss cs
CellsFit NoShapes (Field c cs) = ⊥
CellsFit (ShapeAnd s ss) End = ⊥

-- the object is well typed
abbrev pub ObjectFits : Shape → Tree → Type 0
ObjectFits (Fields id ss) (Struct cs) = CellsFit ss cs
ObjectFits (Fixed id n s) (Arr m es d) = (m ≡ pos n) × Each (CellFits s) es × CellFits s d
ObjectFits (Dynamic id s) (Arr m es d) = (int_le (pos 0) m ≡ true) × Each (CellFits s) es × CellFits s d
ObjectFits _ _ = ⊥

-- all objects stand at numbers from 0 to the count minus 1, and each is of its type
pub record MemoryFits (shape : ℕ → Shape) (m : Memory) : Type 0 where
  pub below : (t r : ℕ) (o : Tree) → find t r m.objects ≡ Some o → r < m.count
  pub fit : (t r : ℕ) (o : Tree) → find t r m.objects ≡ Some o → ObjectFits (shape t) o
