-- What a side begins with, by its table and by its rule.
use Rattle.std.proofs.Common.{◌≡◌, ℕ, Bool, true, false, List, ◌++◌, ◌⊎◌, inl, inr, refl, sym}
use Rattle.sv_grammar.specs.Grammar.{elem}
use Rattle.sv_grammar.specs.Reading.{subset}
use Rattle.sv_grammar.proofs.Sets.{elem-subset, elem_either}

alike : (a b : Bool) → (a ≡ true → b ≡ true) → (b ≡ true → a ≡ true) → a ≡ b
alike true b h k = sym (h refl)
alike false true h k = k refl
alike false false h k = refl

-- two lists of the same classes
pub same_classes : (c : ℕ) (xs ys : List ℕ) → subset xs ys ≡ true → subset ys xs ≡ true → elem c xs ≡ elem c ys
same_classes c xs ys s t = alike (elem c xs) (elem c ys) (elem-subset c xs ys s) (elem-subset c ys xs t)

-- classes that are those of two lists, where the class is of the first, and where it isn't
pub of_one : (c : ℕ) (xs zs : List ℕ) → subset xs zs ≡ true → elem c xs ≡ true → true ≡ elem c zs
of_one c xs zs s h = sym (elem-subset c xs zs s h)

pub of_other : (c : ℕ) (xs ys zs : List ℕ) → subset ys zs ≡ true → subset zs (xs ++ ys) ≡ true → elem c xs ≡ false → elem c ys ≡ elem c zs
of_other c xs ys zs s t h = alike (elem c ys) (elem c zs) (elem-subset c ys zs s) (λ m. by_list (elem_either c xs ys (elem-subset c zs (xs ++ ys) t m)))
  where
    by_list : (elem c xs ≡ true) ⊎ (elem c ys ≡ true) → elem c ys ≡ true
    by_list (inl e) = cc
    by_list (inr e) = e
