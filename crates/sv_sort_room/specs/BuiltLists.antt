-- Believed: a list of trees that is built from a list of nodes, each tree by those before it. Hold it against a table whose rows name earlier rows.
use Rattle.std.specs.Prelude.{ℕ, ◌≤◌, List, [], ◌∷◌, ◌++◌, ◌≡◌, length, take}
use Rattle.std.specs.List.{Contains}

module _ {A C : Type 0} (tree : List A → C → A) where
  -- the trees of the nodes, behind given ones
  abbrev pub built : List A → List C → List A
  built ts [] = ts
  built ts (c ∷ cs) = built (ts ++ tree ts c ∷ []) cs

  -- each node meets a condition on the trees before it, and its tree isn't among them
  abbrev pub AreNew : (List A → C → Type 0) → List A → List C → Type 0
  AreNew P ts [] = Unit {0}
  AreNew P ts (c ∷ cs) = P ts c × (Contains ts (tree ts c) → ⊥) × AreNew P (ts ++ tree ts c ∷ []) cs
