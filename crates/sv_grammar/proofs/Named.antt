-- Names that come later do not change what a tree spells.
use Rattle.std.proofs.Common.{◌≡◌, ℕ, zero, suc, List, [], ◌∷◌, ◌++◌, Some, sym, ap, ◌∙◌, append_assoc}
use Rattle.std.specs.Prelude.{slice_get}
use Rattle.std.proofs.lemmas.List.{append-nil}
use Rattle.sv_grammar.specs.Grammar.{Tree}
use Rattle.sv_grammar.specs.Named.{Spells, unit_spells, none_spells, nil_spells, name_spells, pair_spells, cons_spells, left_spells, right_spells, some_spells, node_spells, Grows}

pub grows_not : (names : List (List ℕ)) → Grows names names
grows_not names = record { more = []; is = sym (append-nil names) }

pub grows_twice : {old mid new : List (List ℕ)} → Grows old mid → Grows mid new → Grows old new
grows_twice {old} g h = record { more = g.more ++ h.more; is = h.is ∙ ap (λ w. w ++ h.more) g.is ∙ append_assoc old g.more h.more }

pub get_more : (names more : List (List ℕ)) (i : ℕ) (t : List ℕ) → slice_get names i ≡ Some t → slice_get (names ++ more) i ≡ Some t
get_more [] more i t h = cc
get_more (x ∷ names) more zero t h = h
get_more (x ∷ names) more (suc i) t h = get_more names more i t h

pub get_grown : {names new : List (List ℕ)} (i : ℕ) (t : List ℕ) → slice_get names i ≡ Some t → Grows names new → slice_get new i ≡ Some t
get_grown {names} {new} i t h g = ap (λ w. slice_get w i) g.is ∙ get_more names g.more i t h

pub spells_more : {names new : List (List ℕ)} {t u : Tree} → Spells names t u → Grows names new → Spells new t u
spells_more unit_spells g = unit_spells
spells_more none_spells g = none_spells
spells_more nil_spells g = nil_spells
spells_more (name_spells {i} {t} h) g = name_spells (get_grown i t h g)
spells_more (pair_spells p q) g = pair_spells (spells_more p g) (spells_more q g)
spells_more (cons_spells p q) g = cons_spells (spells_more p g) (spells_more q g)
spells_more (left_spells p) g = left_spells (spells_more p g)
spells_more (right_spells p) g = right_spells (spells_more p g)
spells_more (some_spells p) g = some_spells (spells_more p g)
spells_more (node_spells p) g = node_spells (spells_more p g)
