-- Believed: what names, members, indexes and effects stand for, and what may be assigned. Hold it against Solidity's documentation, "Members of arrays", "Structs" and "Mapping Types".
use Rattle.std.specs.Prelude.{ℕ, ◌+◌, Bool, true, ◌&&◌, if◌then◌else◌, List, [], ◌∷◌, Option, Some, None, slice_get, ℤ, pos, ◌+ℤ◌, ◌-ℤ◌, int_lt, int_le}
use Rattle.sv_type.specs.Shapes.{Shape, Fields, shape_of, ids_of}
use Rattle.sv_type.specs.StorageTrees.{Tree, Num, Struct, Arr, Trees, End, Field, Empty, Step, Index, nil, child, with_child, number, length_of, with_length}
use Rattle.sv_type.specs.TypedTrees.{default, cleared, assigned}
use Rattle.sv_type.specs.Memory.{Memory, Made, object_at, with_object, fresh, into, tree_of}
use Rattle.sv_core.specs.declared.contract.LocalInfo.{LocalInfo}
use Rattle.sv_core.specs.declared.expr.EnvName.{EnvName}
use Rattle.sv_core.specs.declared.expr.EnvName.TheVariants as env
use Rattle.sv_core.specs.declared.expr.Loc.{Loc}
use Rattle.sv_core.specs.declared.expr.Loc.TheVariants as loc
use Rattle.sv_core.specs.PlainCore.{Contract}
use Rattle.sv_sem.specs.States.{Path, Held, Value, Pointer, Unset, State, View, below, tree_at, with_tree, with_state, with_memory, set_local, is_value_type, with_some, choose}

-- ---- reading

-- what stands at a path: a number where the type is one of values, and else the path itself
abbrev pub at_path : Contract → ℕ → Path → State → Held
at_path core t p s = choose (is_value_type core t) (Value (number (tree_at p s))) (Pointer p)

-- an index of an array is checked; a key of a mapping is not
abbrev pub is_within : Tree → ℤ → Bool
is_within (Arr n es d) i = int_le (pos 0) i && int_lt i n
is_within _ i = true

abbrev pub environment : EnvName → View → ℤ
environment env.Sender c = pos c.frame.sender
environment env.Value c = pos c.frame.value
environment env.Time c = pos c.frame.time
environment env.Number c = pos c.frame.number
environment env.This c = pos c.frame.this
environment env.Balance c = pos c.state.balance

-- the part of type t of what is held, which is of type u; none where a reference names no object
abbrev pub part : Contract → ℕ → ℕ → Step → Held → View → Option Held
part core t u s (Pointer p) c = Some (at_path core t (below p s) c.state)
part core t u s (Value r) c = with_some (object_at u r c.frame.memory) (λ o. Some (Value (number (child s o))))
part core t u s Unset c = None

-- the tree of what is held, one level of it where it is an object
abbrev pub tree_held : ℕ → Held → View → Option Tree
tree_held u (Pointer p) c = Some (tree_at p c.state)
tree_held u (Value r) c = object_at u r c.frame.memory
tree_held u Unset c = None

-- the element at an index
abbrev pub element : Contract → ℕ → ℕ → ℤ → Held → View → Option Held
element core t u i h c = with_some (tree_held u h c) (λ o. if is_within o i then part core t u (Index i) h c else None)

-- the same in annotations: an array in storage reads what the tree keeps, one in memory reads 0 outside
abbrev pub any_element : Contract → ℕ → ℕ → ℤ → Held → View → Option Held
any_element core t u i (Value r) c =
    with_some (object_at u r c.frame.memory) (λ o. if is_within o i then part core t u (Index i) (Value r) c else Some (Value (pos 0)))
any_element core t u i h c = part core t u (Index i) h c

abbrev pub length_held : ℕ → Held → View → Option Held
length_held u h c = with_some (tree_held u h c) (λ o. Some (Value (length_of o)))

-- a path that an effect gave, read where its type is one of values
abbrev pub settled : Contract → ℕ → List Held → View → Held
settled core t (Pointer p ∷ hs) c = at_path core t p c.state
settled core t (h ∷ hs) c = h
settled core t [] c = Value (pos 0)

-- ---- memory

-- what is held, and the view that it is held in
pub record Kept : Type 0 where
  pub held : Held
  pub view : View

abbrev pub kept : Made → View → Kept
kept made c = record { held = Value made.reference; view = with_memory made.memory c }

-- the new objects that stand for a tree
abbrev pub copied_in : Contract → ℕ → Tree → View → Kept
copied_in core t tree c = kept (into (shape_of core.types t) tree c.frame.memory) c

abbrev pub new_default : Contract → ℕ → View → Kept
new_default core t c = copied_in core t (default (shape_of core.types t)) c

-- what stands in storage is copied where a reference is due
abbrev pub to_memory : Contract → ℕ → Held → View → Kept
to_memory core t (Pointer p) c = copied_in core t (tree_at p c.state) c
to_memory core t h c = record { held = h; view = c }

-- into a local of a type at a location
abbrev pub moved : Contract → ℕ → Loc → Held → View → Kept
moved core t loc.Memory h c = to_memory core t h c
moved core t _ h c = record { held = h; view = c }

-- several, each into its own
pub record KeptAll : Type 0 where
  pub held : List Held
  pub view : View

abbrev pub all_moved : Contract → List LocalInfo → List Held → View → KeptAll
all_moved core [] hs c = record { held = []; view = c }
all_moved core (l ∷ ls) [] c = record { held = []; view = c }
all_moved core (l ∷ ls) (h ∷ hs) c =
    let first = moved core l.t l.loc h c in
    let others = all_moved core ls hs first.view in
    record { held = first.held ∷ others.held; view = others.view }

-- a local before anything was assigned to it
abbrev pub unassigned_by : Loc → Held
unassigned_by loc.Storage = Unset
unassigned_by _ = Value (pos 0)

abbrev pub unassigned : LocalInfo → Held
unassigned l = unassigned_by l.loc

-- ---- assigning

-- a local, a place in storage, or a cell of an object
pub data Target : Type 0 where
  ToLocal : (k : ℕ) → Target
  ToPath : (p : Path) → Target
  ToCell : (u : ℕ) (r : ℤ) (s : Step) → Target

-- the part of what is held as a target
abbrev pub part_target : ℕ → Step → Held → Option Target
part_target u s (Pointer p) = Some (ToPath (below p s))
part_target u s (Value r) = Some (ToCell u r s)
part_target u s Unset = None

abbrev pub path_target : Held → Option Target
path_target (Pointer p) = Some (ToPath p)
path_target _ = None

-- the whole tree of what is held
abbrev pub source_tree : Contract → ℕ → Held → View → Option Tree
source_tree core t (Pointer p) c = Some (tree_at p c.state)
source_tree core t (Value r) c = tree_of c.frame.memory (shape_of core.types t) r
source_tree core t Unset c = None

-- the cell of an object that is there
abbrev pub with_cell : ℕ → ℤ → Step → ℤ → View → Option View
with_cell u r s z c = with_some (object_at u r c.frame.memory) (λ o. Some (with_memory (with_object u r (with_child s (Num z) o) c.frame.memory) c))

abbrev pub value_held : Held → ℤ
value_held (Value z) = z
value_held _ = pos 0

abbrev pub loc_of : Option LocalInfo → Loc
loc_of None = loc.Value
loc_of (Some l) = l.loc

-- a value of type t is assigned: into storage it is copied whole, into memory as a reference
abbrev pub assign : Contract → List LocalInfo → ℕ → Target → Held → View → Option View
assign core ls t (ToLocal k) h c = let m = moved core t (loc_of (slice_get ls k)) h c in Some (set_local k m.held m.view)
assign core ls t (ToPath p) h c = with_some (source_tree core t h c) (λ u. Some (with_state (with_tree p (assigned (shape_of core.types t) u (tree_at p c.state)) c.state) c))
assign core ls t (ToCell u r s) h c = let m = to_memory core t h c in with_cell u r s (value_held m.held) m.view

-- `delete` of something in memory puts a new default object in its place, and the old object stays
abbrev pub default_held : Contract → ℕ → View → Kept
default_held core t c = choose (is_value_type core t) (record { held = Value (pos 0); view = c }) (new_default core t c)

abbrev pub delete : Contract → ℕ → Target → View → Option View
delete core t (ToLocal k) c = let m = default_held core t c in Some (set_local k m.held m.view)
delete core t (ToPath p) c = Some (with_state (with_tree p (cleared (shape_of core.types t) (tree_at p c.state)) c.state) c)
delete core t (ToCell u r s) c = let m = default_held core t c in with_cell u r s (value_held m.held) m.view

-- ---- arrays in storage, and new objects

-- what an effect gives, and the view that it leaves
pub record Worked : Type 0 where
  pub results : List Held
  pub view : View

abbrev pub with_array : Path → Tree → View → View
with_array p t c = with_state (with_tree p t c.state) c

-- an element of type t more, at which stands what was left there
abbrev pub pushed : Path → View → Worked
pushed p c =
    let a = tree_at p c.state in
    record { results = Pointer (below p (Index (length_of a))) ∷ []; view = with_array p (with_length (length_of a +ℤ pos 1) a) c }

-- a value of type t more, written over what was left there once that is cleared
abbrev pub pushed_value : Contract → ℕ → Path → Held → View → Option Worked
pushed_value core t p h c =
    let a = tree_at p c.state in
    with_some (source_tree core t h c) (λ u.
    let element = child (Index (length_of a)) a in
    Some (record {
      results = [];
      view = with_array p (with_length (length_of a +ℤ pos 1) (with_child (Index (length_of a)) (assigned (shape_of core.types t) u element) a)) c;
    }))

-- the last element is deleted, and the array is shorter by it; an empty array reverts
abbrev pub popped : Contract → ℕ → Path → View → Option Worked
popped core t p c =
    let a = tree_at p c.state in
    let last = Index (length_of a -ℤ pos 1) in
    if int_lt (pos 0) (length_of a)
    then Some (record { results = []; view = with_array p (with_length (length_of a -ℤ pos 1) (with_child last (cleared (shape_of core.types t) (child last a)) a)) c })
    else None

-- a reference to a new object with these cells, each copied in where it stands in storage
abbrev pub cells_made : Contract → List ℕ → List Held → View → KeptAll
cells_made core (t ∷ ts) (h ∷ hs) c =
    let first = to_memory core t h c in
    let others = cells_made core ts hs first.view in
    record { held = first.held ∷ others.held; view = others.view }
cells_made core _ _ c = record { held = []; view = c }

abbrev pub cells_of_held : List Held → Trees
cells_of_held [] = End
cells_of_held (h ∷ hs) = Field (Num (value_held h)) (cells_of_held hs)

abbrev pub worked : Kept → Worked
worked k = record { results = k.held ∷ []; view = k.view }

abbrev pub field_types : Shape → List ℕ
field_types (Fields id ss) = ids_of ss
field_types _ = []

-- from its fields, or without any the default object
abbrev pub made : Contract → ℕ → List Held → View → Worked
made core t [] c = worked (new_default core t c)
made core t (h ∷ hs) c =
    let m = cells_made core (field_types (shape_of core.types t)) (h ∷ hs) c in
    worked (kept (fresh t (Struct (cells_of_held m.held)) m.view.frame.memory) m.view)

-- an array of zeros
abbrev pub new_array : ℕ → ℤ → View → Worked
new_array t n c = worked (kept (fresh t (Arr n Empty nil) c.frame.memory) c)
