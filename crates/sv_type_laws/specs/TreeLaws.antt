-- Serves the proof: what the definitions of trees and of memory mean, as laws.
use Rattle.std.specs.Prelude.{◌≡◌, ◌⊎◌, ◌↔◌, true, List, [], ◌∷◌, Some, ℤ, ◌+ℤ◌}
use Rattle.sv_type.specs.Shapes.{Shape}
use Rattle.sv_type.specs.StorageTrees.{Tree, Map, Entries, Step, At, Index, entry, nil, number, read, write, face, sum, with_child}
use Rattle.sv_type.specs.TypedTrees.{Fits, fits, Leads, Below, default, cleared, over, assigned, has_no_mapping}
use Rattle.sv_type.specs.Memory.{Memory, Made, into, tree_of, is_memory_shape}

-- the two paths part: at some step one takes another field or another index
abbrev pub Parts : List Step → List Step → Type 0
Parts [] q = ⊥
Parts (s ∷ p) [] = ⊥
Parts (At j ∷ p) (At k ∷ q) = ((j ≡ k) × Parts p q) ⊎ (j ≡ k → ⊥)
Parts (Index i ∷ p) (Index j ∷ q) = ((i ≡ j) × Parts p q) ⊎ (i ≡ j → ⊥)
Parts (At j ∷ p) (Index i ∷ q) = ⊥
Parts (Index i ∷ p) (At j ∷ q) = ⊥

-- what was written at a path is read there
abbrev pub ReadsBack : Type 0
ReadsBack = (p : List Step) (s r : Shape) (t v : Tree) → Leads p s r → Fits s t → read p (write p v t) ≡ v

-- at a path that parts from the one that was written, one reads what was there
abbrev pub LeavesOthers : Type 0
LeavesOthers = (p q : List Step) (t v : Tree) → Parts p q → read q (write p v t) ≡ read q t

-- a tree stays one of its type when something of the right type is written
abbrev pub KeepsType : Type 0
KeepsType = (p : List Step) (s r : Shape) (t v : Tree) → Leads p s r → Fits s t → Fits r v → Fits s (write p v t)

-- what is read at a path of a type is of that type
abbrev pub ReadsItsType : Type 0
ReadsItsType = (p : List Step) (s r : Shape) (t : Tree) → Leads p s r → Fits s t → Fits r (read p t)

-- a write takes the old number out of the sum, and puts the new one in
abbrev pub SumMoves : Type 0
SumMoves = (i : ℤ) (v : Tree) (es : Entries) (d : Tree) → sum (with_child (Index i) v (Map es d)) +ℤ number (entry i es nil) ≡ sum (Map es d) +ℤ number v

-- the test of being of a type is exact
abbrev pub TestIsExact : Type 0
TestIsExact = (s : Shape) (t : Tree) → (fits s t ≡ true) ↔ Fits s t

-- a default is of its type, and so is what clearing leaves
abbrev pub DefaultsFit : Type 0
DefaultsFit = (s : Shape) → Fits s (default s)

abbrev pub ClearedFits : Type 0
ClearedFits = (s : Shape) (t : Tree) → Fits s t → Fits s (cleared s t)

-- at each path below the lengths of its arrays a copy reads as its source
abbrev pub ReadsAsItsSource : Tree → Tree → Type 0
ReadsAsItsSource copy source = (p : List Step) → Below p source → face (read p copy) ≡ face (read p source)

abbrev pub CopiesRead : Type 0
CopiesRead = (s : Shape) (t u : Tree) → Fits s t → Fits s u → has_no_mapping s ≡ true → ReadsAsItsSource (over s t u) t

abbrev pub AssignmentsRead : Type 0
AssignmentsRead = (s : Shape) (t u : Tree) → Fits s t → Fits s u → has_no_mapping s ≡ true → ReadsAsItsSource (assigned s t u) t

-- the objects that a copy into memory makes stand for a tree that reads as the source
abbrev pub StandsFor : Shape → Tree → Made → Type 0
StandsFor s t made = (u : Tree) × (tree_of made.memory s made.reference ≡ Some u) × ReadsAsItsSource u t

abbrev pub CopiesInto : Type 0
CopiesInto = (s : Shape) (t : Tree) (m : Memory) → Fits s t → is_memory_shape s ≡ true → StandsFor s t (into s t m)
