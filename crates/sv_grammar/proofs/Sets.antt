-- Tests and sets of classes, and two ways to cut one list.
use Rattle.std.proofs.Common.{◌≡◌, ℕ, Bool, true, false, not, ◌&&◌, ◌||◌, cond, List, [], ◌∷◌, ◌++◌, refl, sym, ap, ◌∙◌, ◌⊎◌, inl, inr}
use Rattle.std.specs.Prelude.{◌==◌}
use Rattle.std.proofs.lemmas.Bool.{eqb-true}
use Rattle.sv_grammar.specs.Grammar.{elem}
use Rattle.sv_grammar.specs.Reading.{subset, disjoint, implies, OfEach}

pub and_true : (a b : Bool) → (a && b) ≡ true → (a ≡ true) × (b ≡ true)
and_true true true e = (refl, refl)
and_true true false e = cc
and_true false b e = cc

pub or_true : (a b : Bool) → (a || b) ≡ true → (a ≡ true) ⊎ (b ≡ true)
or_true true b e = inl refl
or_true false b e = inr e

pub or_right : (a b : Bool) → b ≡ true → (a || b) ≡ true
or_right true b e = refl
or_right false b e = e

pub or_left : (a b : Bool) → a ≡ true → (a || b) ≡ true
or_left true b e = refl
or_left false b e = cc

pub not_true : (a : Bool) → not a ≡ true → a ≡ true → ⊥
not_true true h e = cc
not_true false h e = cc

pub elem-left : (c : ℕ) (xs ys : List ℕ) → elem c xs ≡ true → elem c (xs ++ ys) ≡ true
elem-left c [] ys h = cc
elem-left c (x ∷ xs) ys h = elim (or_true (c == x) (elem c xs) h) [ inl e ↦ or_left (c == x) (elem c (xs ++ ys)) e | inr e ↦ or_right (c == x) (elem c (xs ++ ys)) (elem-left c xs ys e) ]

pub elem-right : (c : ℕ) (xs ys : List ℕ) → elem c ys ≡ true → elem c (xs ++ ys) ≡ true
elem-right c [] ys h = h
elem-right c (x ∷ xs) ys h = or_right (c == x) (elem c (xs ++ ys)) (elem-right c xs ys h)

pub elem-subset : (c : ℕ) (xs ys : List ℕ) → subset xs ys ≡ true → elem c xs ≡ true → elem c ys ≡ true
elem-subset c [] ys s h = cc
elem-subset c (x ∷ xs) ys s h =
    let both = and_true (elem x ys) (subset xs ys) s in
    elim (or_true (c == x) (elem c xs) h) [ inl e ↦ ap (λ n. elem n ys) (eqb-true c x e) ∙ both.0 | inr e ↦ elem-subset c xs ys both.1 e ]

pub elem-disjoint : (c : ℕ) (xs ys : List ℕ) → disjoint xs ys ≡ true → elem c xs ≡ true → elem c ys ≡ true → ⊥
elem-disjoint c [] ys d h k = cc
elem-disjoint c (x ∷ xs) ys d h k =
    let both = and_true (not (elem x ys)) (disjoint xs ys) d in
    elim (or_true (c == x) (elem c xs) h) [ inl e ↦ not_true (elem x ys) both.0 (ap (λ n. elem n ys) (sym (eqb-true c x e)) ∙ k) | inr e ↦ elem-disjoint c xs ys both.1 e k ]

pub and_both : (a b : Bool) → a ≡ true → b ≡ true → (a && b) ≡ true
and_both true b p q = q
and_both false b p q = cc

pub implied : (a b : Bool) → implies a b ≡ true → a ≡ true → b ≡ true
implied true b h e = h
implied false b h e = cc

pub elem_either : (n : ℕ) (xs ys : List ℕ) → elem n (xs ++ ys) ≡ true → (elem n xs ≡ true) ⊎ (elem n ys ≡ true)
elem_either n [] ys h = inr h
elem_either n (x ∷ xs) ys h = elim (or_true (n == x) (elem n (xs ++ ys)) h) [
  | inl e ↦ inl (or_left (n == x) (elem n xs) e)
  | inr e ↦ elim (elem_either n xs ys e) [ inl g ↦ inl (or_right (n == x) (elem n xs) g) | inr g ↦ inr g ]
]

pub if_so : (v : Bool) (n : ℕ) (xs : List ℕ) → elem n (cond v xs []) ≡ true → (v ≡ true) × (elem n xs ≡ true)
if_so true n xs h = (refl, h)
if_so false n xs h = cc

pub not_in : (n : ℕ) (xs ys : List ℕ) → disjoint xs ys ≡ true → elem n xs ≡ true → elem n ys ≡ false
not_in n xs ys apart h = by_test (elem n ys) (λ e. elem-disjoint n xs ys apart h e)
  where
    by_test : (v : Bool) → (v ≡ true → ⊥) → v ≡ false
    by_test true k = absurd (k refl)
    by_test false k = refl

-- what holds of each of two lists in a row
pub each_left : {A : Type 0} (P : A → Type 0) (xs ys : List A) → OfEach P (xs ++ ys) → OfEach P xs
each_left P [] ys h = tt
each_left P (x ∷ xs) ys h = (h.0, each_left P xs ys h.1)

pub each_right : {A : Type 0} (P : A → Type 0) (xs ys : List A) → OfEach P (xs ++ ys) → OfEach P ys
each_right P [] ys h = h
each_right P (x ∷ xs) ys h = each_right P xs ys h.1

-- two lists that make one list are the same two, or one cut is further on
pub data Cut {A : Type 0} (a b c d : List A) : Type 0 where
  same : a ≡ c → b ≡ d → Cut a b c d
  further : (y : A) (m : List A) → c ≡ a ++ y ∷ m → b ≡ y ∷ (m ++ d) → Cut a b c d
  nearer : (y : A) (m : List A) → a ≡ c ++ y ∷ m → d ≡ y ∷ (m ++ b) → Cut a b c d

cut_more : {A : Type 0} {a b c d : List A} (x y : A) → x ≡ y → Cut a b c d → Cut (x ∷ a) b (y ∷ c) d
cut_more x y e (same f g) = same (cc) g
cut_more x y e (further z m f g) = further z m (cc) g
cut_more x y e (nearer z m f g) = nearer z m (cc) g

pub cut : {A : Type 0} (a b c d : List A) → a ++ b ≡ c ++ d → Cut a b c d
cut [] b [] d e = same refl e
cut [] b (y ∷ c) d e = further y c refl e
cut (x ∷ a) b [] d e = nearer x a refl (sym e)
cut (x ∷ a) b (y ∷ c) d e = cut_more x y (cc) (cut a b c d (cc))

-- where a list that two make begins
pub begins_in : {A : Type 0} (xs ys : List A) (y : A) (w : List A) → xs ++ ys ≡ y ∷ w → ((v : List A) × (xs ≡ y ∷ v)) ⊎ ((xs ≡ []) × (ys ≡ y ∷ w))
begins_in [] ys y w e = inr (refl, e)
begins_in (x ∷ xs) ys y w e = inl (xs, cc)

-- where an element of such a list lies
pub lies_in : {A : Type 0} (xs ys u : List A) (y : A) (w : List A) → xs ++ ys ≡ u ++ y ∷ w → ((v : List A) × (xs ≡ u ++ y ∷ v)) ⊎ ((v : List A) × (ys ≡ v ++ y ∷ w))
lies_in {A = A} xs ys u y w e = by_cut (cut xs ys u (y ∷ w) e)
  where
    by_cut : Cut xs ys u (y ∷ w) → ((v : List A) × (xs ≡ u ++ y ∷ v)) ⊎ ((v : List A) × (ys ≡ v ++ y ∷ w))
    by_cut (same f g) = inr ([], g)
    by_cut (further z m f g) = inr (z ∷ m, g)
    by_cut (nearer z m f g) = let same_z : y ≡ z = cc in inl (m, rw same_z f)

pub not_empty : {A : Type 0} (u : List A) (y : A) (w : List A) → [] ≡ u ++ y ∷ w → ⊥
not_empty [] y w e = cc
not_empty (x ∷ u) y w e = cc

pub empty_two : {A : Type 0} (xs ys : List A) → xs ++ ys ≡ [] → (xs ≡ []) × (ys ≡ [])
empty_two [] ys e = (refl, e)
empty_two (x ∷ xs) ys e = cc
