-- Believed: the edges, paths and rings of a graph, and what marks say. Hold it against a book on directed graphs.
use Rattle.std.specs.Prelude.{ℕ, zero, suc, ◌≡◌, ◌<◌, ◌↔◌, Bool, false, IsTrue, List, [], length, slice_index_or}
use Rattle.std.specs.List.{Contains}

-- a graph is the list of the successors of each node; an edge ends at a node
abbrev pub HasEdge : List (List ℕ) → ℕ → ℕ → Type 0
HasEdge graph a b = (b < length graph) × Contains (slice_index_or graph a []) b

-- so many edges, each from where the one before it ends
abbrev pub Path : List (List ℕ) → ℕ → ℕ → ℕ → Type 0
Path graph zero a b = a ≡ b
Path graph (suc n) a b = (c : ℕ) × HasEdge graph a c × Path graph n c b

abbrev pub Reaches : List (List ℕ) → ℕ → ℕ → Type 0
Reaches graph a b = (n : ℕ) × Path graph n a b

abbrev pub IsReached : List (List ℕ) → List ℕ → ℕ → Type 0
IsReached graph starts b = (a : ℕ) × Contains starts a × Reaches graph a b

-- a path of at least one edge leads from it to itself
abbrev pub IsOnRing : List (List ℕ) → ℕ → Type 0
IsOnRing graph a = (n : ℕ) × Path graph (suc n) a a

-- for each of so many nodes, whether this is true of it
abbrev pub AreMarks : ℕ → (ℕ → Type 0) → List Bool → Type 0
AreMarks n P marks = (length marks ≡ n) × ((a : ℕ) → a < n → IsTrue (slice_index_or marks a false) ↔ P a)
