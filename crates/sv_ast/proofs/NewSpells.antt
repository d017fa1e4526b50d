-- The tree of a post with names in place of texts.
use Rattle.std.proofs.Common.{◌≡◌, ℕ, zero, suc, List, [], ◌∷◌, refl, ap}
use Rattle.sv_grammar.specs.Grammar.{Extent, Tree, cons}
use Rattle.sv_grammar.specs.Named.{Spells, unit_spells, none_spells, nil_spells, pair_spells, cons_spells, left_spells, right_spells, some_spells, node_spells}
use Rattle.sv_grammar.specs.ListTrees.{list_tree}
use Rattle.sv_ast.specs.ExprTrees.{behind, suffix_behind, suffixes_behind, longer_plain_tree, new_tree, atom_and_suffixes}

-- each of the first trees is that of the second with names in place of texts
pub data SpellsAll (names : List (List ℕ)) : List Tree → List Tree → Type 0 where
  all_none : SpellsAll names [] []
  all_more : {t u : Tree} {ts us : List Tree} → Spells names t u → SpellsAll names ts us → SpellsAll names (t ∷ ts) (u ∷ us)

module _ {names : List (List ℕ)} where
  pub list_spells : {ts us : List Tree} → SpellsAll names ts us → Spells names (list_tree ts) (list_tree us)
  list_spells all_none = nil_spells
  list_spells (all_more s a) = cons_spells s (list_spells a)

  -- a list with names stands for a list
  pub list_spelled : (ts : List Tree) {u : Tree} → Spells names (list_tree ts) u → (us : List Tree) × (u ≡ list_tree us) × SpellsAll names ts us
  list_spelled [] nil_spells = ([], refl, all_none)
  list_spelled (t ∷ ts) (cons_spells {v} s a) = let m = list_spelled ts a in (v ∷ m.0, ap (cons v) m.1, all_more s m.2)

  behind_spells : (n : ℕ) {t u : Tree} → Spells names t u → Spells names (behind n t) (behind n u)
  behind_spells zero s = s
  behind_spells (suc n) (right_spells s) = behind_spells n s
  behind_spells (suc n) _ = unit_spells

  suffix_behind_spells : (n : ℕ) {t u : Tree} → Spells names t u → Spells names (suffix_behind n t) (suffix_behind n u)
  suffix_behind_spells n (node_spells s) = node_spells (behind_spells n s)
  suffix_behind_spells n _ = unit_spells

  suffixes_behind_spells : (n : ℕ) {ts us : List Tree} → SpellsAll names ts us → Spells names (suffixes_behind n ts) (suffixes_behind n us)
  suffixes_behind_spells n all_none = none_spells
  suffixes_behind_spells n (all_more s a) = some_spells (pair_spells (suffix_behind_spells n s) (list_spells a))

  longer_plain_spells : {t u : Tree} → Spells names t u → Spells names (longer_plain_tree t) (longer_plain_tree u)
  longer_plain_spells (right_spells (right_spells (right_spells (left_spells (pair_spells s (some_spells q)))))) = right_spells (right_spells (right_spells (left_spells (pair_spells s q))))
  longer_plain_spells s = s

  new_spells : (x : Extent) {t u : Tree} {ts us : List Tree} → Spells names t u → SpellsAll names ts us → Spells names (new_tree x t ts) (new_tree x u us)
  unfolding new_tree
  new_spells x (node_spells (pair_spells (node_spells (right_spells (right_spells (right_spells (left_spells (pair_spells s none_spells)))))) nil_spells)) a =
      left_spells (pair_spells (node_spells (pair_spells unit_spells (node_spells (node_spells s)))) (suffixes_behind_spells 2 a))
  new_spells x (node_spells (pair_spells (node_spells (right_spells (right_spells (right_spells (left_spells (pair_spells s none_spells)))))) (cons_spells b q))) a =
      right_spells (pair_spells (node_spells (pair_spells unit_spells (node_spells (left_spells (pair_spells (node_spells s) (pair_spells b q)))))) (suffixes_behind_spells 1 a))
  new_spells x (node_spells (pair_spells (node_spells s) q)) a =
      right_spells (pair_spells (node_spells (pair_spells unit_spells (node_spells (right_spells (pair_spells (node_spells (longer_plain_spells s)) q))))) (suffixes_behind_spells 1 a))
  new_spells x _ a = unit_spells

  pub post_spells : {t u : Tree} {ts us : List Tree} → Spells names t u → SpellsAll names ts us → Spells names (atom_and_suffixes t ts) (atom_and_suffixes u us)
  unfolding atom_and_suffixes
  post_spells (node_spells {x} (pair_spells unit_spells s)) a = right_spells (new_spells x s a)
  post_spells s a = left_spells (pair_spells s (list_spells a))
