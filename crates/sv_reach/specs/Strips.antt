-- Serves the proof: what leaving a node marks, and what is owed to a walk.
use Rattle.std.specs.Prelude.{ℕ, ◌≡◌, ◌<◌, ◌+◌, Bool, true, false, cond, IsTrue, List, [], ◌∷◌, length, slice_index_or, slice_set}
use Rattle.std.specs.List.{list_all}
use Rattle.sv_reach.specs.Paths.{IsOnRing}
use Rattle.sv_reach.specs.declared.strip.Walk.{Walk}

-- a node that is marked is on no ring
abbrev pub OffRings : List (List ℕ) → List Bool → Type 0
OffRings graph marks = (length marks ≡ length graph) × ((a : ℕ) → IsTrue (slice_index_or marks a false) → IsOnRing graph a → ⊥)

-- a node is marked once all its successors are
abbrev pub left : List (List ℕ) → ℕ → List Bool → List Bool
left graph a marks = cond (slice_index_or marks a true) marks (cond (list_all (λ b. slice_index_or marks b true) (slice_index_or graph a [])) (slice_set marks a true) marks)

-- the steps that nodes which weren't entered may add yet: each leaves once and enters its successors
abbrev pub owed : List Bool → List (List ℕ) → ℕ
owed [] graph = 0
owed (met ∷ mets) [] = cond met 0 1 + owed mets []
owed (met ∷ mets) (next ∷ graph) = cond met 0 (length next + 1) + owed mets graph

-- what a walk has to do at the most
abbrev pub to_do : List (List ℕ) → Walk → ℕ
to_do graph walk = owed walk.met graph + length walk.steps

abbrev pub HasSuccessors : List (List ℕ) → ℕ → List ℕ → Type 0
HasSuccessors graph a next = (a < length graph) × (next ≡ slice_index_or graph a [])
