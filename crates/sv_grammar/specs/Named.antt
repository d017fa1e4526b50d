-- Believed: trees with texts by their numbers in a list of names. Hold it against the list of names: number i stands for its text at place i.
use Rattle.std.specs.Prelude.{◌≡◌, ℕ, List, ◌++◌, Some, slice_get}
use Rattle.sv_grammar.specs.Grammar.{Extent, Tree, unit, leaf, name, pair, left, right, none, some, nil, cons, node}

-- the first tree is the second with names in place of texts
pub data Spells (names : List (List ℕ)) : Tree → Tree → Type 0 where
  unit_spells : Spells names unit unit
  none_spells : Spells names none none
  nil_spells : Spells names nil nil
  name_spells : {i : ℕ} {t : List ℕ} → slice_get names i ≡ Some t → Spells names (name i) (leaf t)
  pair_spells : {t u v w : Tree} → Spells names t v → Spells names u w
      → Spells names (pair t u) (pair v w)
  cons_spells : {t u v w : Tree} → Spells names t v → Spells names u w
      → Spells names (cons t u) (cons v w)
  left_spells : {t u : Tree} → Spells names t u → Spells names (left t) (left u)
  right_spells : {t u : Tree} → Spells names t u → Spells names (right t) (right u)
  some_spells : {t u : Tree} → Spells names t u → Spells names (some t) (some u)
  node_spells : {x : Extent} {t u : Tree} → Spells names t u → Spells names (node x t) (node x u)

-- no name changes, and others may come after them
pub record Grows (old new : List (List ℕ)) : Type 0 where
  pub more : List (List ℕ)
  pub is : new ≡ old ++ more
