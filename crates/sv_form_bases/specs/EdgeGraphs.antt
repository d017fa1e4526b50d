-- Serves the proof: the graph of a list of edges, and what a node of it leads to.
use Rattle.std.specs.Prelude.{ℕ, suc, ◌≡◌, ◌<◌, ◌+◌, cond, nat_eq, max, List, [], ◌∷◌, ◌++◌, length, slice_index_or, slice_set}
use Rattle.sv_reach.specs.Paths.{Path}
use Rattle.sv_form_bases.specs.declared.graph.Edge.{Edge}

-- where the edges of a node end, in order
abbrev pub targets : List Edge → ℕ → List ℕ
targets [] a = []
targets (e ∷ es) a = cond (nat_eq e.from a) (e.to ∷ targets es a) (targets es a)

-- each number of an edge is below n
abbrev pub IsBelow : ℕ → List Edge → Type 0
IsBelow n [] = Unit {0}
IsBelow n (e ∷ es) = (e.from < n) × (e.to < n) × IsBelow n es

pub record IsGraphOf (edges : List Edge) (graph : List (List ℕ)) : Type 0 where
  pub rows : (a : ℕ) → slice_index_or graph a [] ≡ targets edges a
  pub ends : IsBelow (length graph) edges

-- a path of at least one edge
abbrev pub Leads : List (List ℕ) → ℕ → ℕ → Type 0
Leads graph a b = (n : ℕ) × Path graph (suc n) a b

-- ---- how the graph is made

-- a number above n and above each number of an edge
abbrev pub room_from : ℕ → List Edge → ℕ
room_from n [] = n
room_from n (e ∷ es) = room_from (max (max n (e.from + 1)) (e.to + 1)) es

abbrev pub linked : Edge → List (List ℕ) → List (List ℕ)
linked e graph = slice_set graph e.from (slice_index_or graph e.from [] ++ e.to ∷ [])

abbrev pub linked_all : List Edge → List (List ℕ) → List (List ℕ)
linked_all [] graph = graph
linked_all (e ∷ es) graph = linked_all es (linked e graph)
