-- What begins with the classes of a list, or of one of two.
use Rattle.std.proofs.Common.{◌≡◌, ℕ, Bool, true, false, List, ◌++◌, refl, sym, ◌∙◌, inl, inr}
use Rattle.sv_grammar.specs.Grammar.{elem}
use Rattle.sv_grammar.specs.Reading.{subset}
use Rattle.sv_grammar.proofs.Sets.{elem-subset, elem_either}

alike : (v w : Bool) → (v ≡ true → w ≡ true) → (w ≡ true → v ≡ true) → v ≡ w
alike true w p q = sym (p refl)
alike false true p q = q refl
alike false false p q = refl

apart : (b : Bool) → b ≡ true → b ≡ false → ⊥
apart true h e = cc
apart false h e = cc

-- two lists of the same classes
pub begins_same : (c : ℕ) {b : Bool} (xs zs : List ℕ) → subset xs zs ≡ true → subset zs xs ≡ true → b ≡ elem c xs → b ≡ elem c zs
begins_same c xs zs s t e = e ∙ alike (elem c xs) (elem c zs) (elem-subset c xs zs s) (elem-subset c zs xs t)

-- a class of the first list is one of all
pub begins_one : (c : ℕ) {b : Bool} (xs zs : List ℕ) → subset xs zs ≡ true → b ≡ elem c xs → b ≡ true → b ≡ elem c zs
begins_one c xs zs s e h = h ∙ sym (elem-subset c xs zs s (sym e ∙ h))

-- a class that isn't of the first list is one of all where it is of the second
pub begins_other : (c : ℕ) {b d : Bool} (xs ys zs : List ℕ) → subset ys zs ≡ true → subset zs (xs ++ ys) ≡ true → b ≡ elem c xs → b ≡ false → d ≡ elem c ys → d ≡ elem c zs
begins_other c {b} xs ys zs s t e h f =
    f ∙ alike (elem c ys) (elem c zs) (elem-subset c ys zs s) (λ g. elim (elem_either c xs ys (elem-subset c zs (xs ++ ys) t g)) [ inl k ↦ absurd (apart b (e ∙ k) h) | inr k ↦ k ])
