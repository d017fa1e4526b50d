-- Among distinct names, a tree with names is told by the derivation that it spells.
use Rattle.std.proofs.Common.{◌≡◌, ◌≢◌, ℕ, ◌<◌, ◌≤◌, List, Some, refl, sym, ap, subst, ◌∙◌, inl, inr, ◌⊎◌, arith}
use Rattle.std.specs.Prelude.{slice_get, AllPairs}
use Rattle.std.proofs.lemmas.Option.{slice_get_within, get_or_from_slice_get}
use Rattle.std.proofs.Math.Nat.{eq-or-lt_of_le}
use Rattle.sv_grammar.specs.Grammar.{Part, Tree, name, left, right, some, node}
use Rattle.sv_grammar.specs.Named.{Spells, unit_spells, none_spells, nil_spells, name_spells, pair_spells, cons_spells, left_spells, right_spells, some_spells, node_spells}
use Rattle.sv_ast.specs.Syntax.{Side}
use Rattle.sv_ast.specs.GrammarLaws.{IsOne, IsOneNamed}

abbrev AreDistinct : List (List ℕ) → Type 0
AreDistinct names = AllPairs (λ x y. x ≢ y) names

not_before : (names : List (List ℕ)) → AreDistinct names → (i j : ℕ) (t : List ℕ) → i < j → slice_get names i ≡ Some t → slice_get names j ≡ Some t → ⊥
not_before names all i j t h p q = all i j t h (slice_get_within names j t q) (get_or_from_slice_get names i t t p ∙ sym (get_or_from_slice_get names j t t q))

one_place : (names : List (List ℕ)) → AreDistinct names → (i j : ℕ) (t : List ℕ) → slice_get names i ≡ Some t → slice_get names j ≡ Some t → i ≡ j
one_place names all i j t p q = by_order (order i j)
  where
    order : (i j : ℕ) → (i ≤ j) ⊎ (j < i)
    order i j = grind arith

    by_order : (i ≤ j) ⊎ (j < i) → i ≡ j
    by_order (inl h) = elim (eq-or-lt_of_le h) [ inl e ↦ e | inr n ↦ absurd (not_before names all i j t n p q) ]
    by_order (inr h) = absurd (not_before names all j i t h q p)

spells_one : {names : List (List ℕ)} → AreDistinct names → {t u v : Tree} → Spells names t v → Spells names u v → t ≡ u
spells_one all unit_spells unit_spells = refl
spells_one all none_spells none_spells = refl
spells_one all nil_spells nil_spells = refl
spells_one {names} all (name_spells {i} {t} p) (name_spells {i = j} q) = ap name (one_place names all i j t p q)
spells_one all (pair_spells s p) (pair_spells q r) = let m = spells_one all s q in let n = spells_one all p r in cc (m, n)
spells_one all (cons_spells s p) (cons_spells q r) = let m = spells_one all s q in let n = spells_one all p r in cc (m, n)
spells_one all (left_spells s) (left_spells q) = ap left (spells_one all s q)
spells_one all (right_spells s) (right_spells q) = ap right (spells_one all s q)
spells_one all (some_spells s) (some_spells q) = ap some (spells_one all s q)
spells_one all (node_spells {x} s) (node_spells q) = ap (node x) (spells_one all s q)

pub named_one : {a : Part Side} → IsOne a → IsOneNamed a
named_one one names tokens t u all (v, p, d) (w, q, e) = spells_one all p (subst (λ z. Spells names u z) (sym (one tokens v w d e)) q)
