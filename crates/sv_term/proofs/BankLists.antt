-- Lists of numbers of a bank, and the trees that they stand for.
use Rattle.std.proofs.Common.{ℕ, zero, suc, ◌<◌, ◌≤◌, List, [], ◌∷◌, ◌++◌, ◌≡◌, ◌⊎◌, inl, inr, length, map, get_or, set, slice_get, Some, refl, ap, ap₂, arith}
use Rattle.sv_term.specs.Sorts.{Sort, BoolSort}
use Rattle.sv_term.specs.Terms.{Term}
use Rattle.sv_term.specs.Banks.{Nodes, sort, term, sort_list, term_list, IsSort, AreSorts, IsTerm, AreTerms}
use Rattle.sv_term.specs.declared.node.SortId.{SortId}
use Rattle.sv_term.specs.declared.node.TermId.{TermId}

-- ---- lists of anything

pub at_end : {A : Type 0} → (xs : List A) (x : A) (k : ℕ) → k ≡ length xs → slice_get (xs ++ x ∷ []) k ≡ Some x
at_end [] x k e = rw e refl
at_end (y ∷ xs) x k e = rw e (at_end xs x (length xs) refl)

-- an item of a list with one more is an old one or that one
pub of_push : {A : Type 0} → (xs : List A) (y : A) (k : ℕ) (x : A) → slice_get (xs ++ y ∷ []) k ≡ Some x → ((k < length xs) × (slice_get xs k ≡ Some x)) ⊎ ((k ≡ length xs) × (x ≡ y))
of_push [] y zero x e = inr (refl, cc)
of_push [] y (suc k) x e = cc
of_push (z ∷ xs) y zero x e = inl (omega arith, e)
of_push (z ∷ xs) y (suc k) x e = elim (of_push xs y k x e) [ inl l ↦ inl (omega (arith, l.0), l.1) | inr r ↦ inr (ap suc r.0, r.1) ]

pub within_get : {A : Type 0} → (xs : List A) (k : ℕ) (x : A) → slice_get xs k ≡ Some x → k < length xs
within_get [] k x e = cc
within_get (y ∷ xs) zero x e = omega arith
within_get (y ∷ xs) (suc k) x e = omega (arith, within_get xs k x e)

pub here : {A : Type 0} → (xs : List A) (k : ℕ) → k < length xs → (x : A) × (slice_get xs k ≡ Some x)
here [] k h = absurd (omega arith)
here (x ∷ xs) zero h = (x, refl)
here (x ∷ xs) (suc k) h = here xs k (omega (arith, h))

-- ---- numbers from bank to bank

pub lists_within : (a b : Nodes) → length a.nodes ≤ length b.nodes → (ks : List TermId) → AreTerms a ks → AreTerms b ks
lists_within a b h [] i = tt
lists_within a b h (k ∷ ks) i = (omega (arith, i.0), lists_within a b h ks i.1)

pub lists_kept : (a b : Nodes) → ((k : TermId) → IsTerm a k → term b k ≡ term a k) → (ks : List TermId) → AreTerms a ks → term_list b ks ≡ term_list a ks
unfolding term_list
lists_kept a b h [] i = refl
lists_kept a b h (k ∷ ks) i = ap₂ (λ z zs. z ∷ zs) (h k i.0) (lists_kept a b h ks i.1)

pub sorts_within : (a b : Nodes) → length a.sorts ≤ length b.sorts → (ks : List SortId) → AreSorts a ks → AreSorts b ks
sorts_within a b h [] i = tt
sorts_within a b h (k ∷ ks) i = (omega (arith, i.0), sorts_within a b h ks i.1)

pub sorts_kept : (a b : Nodes) → ((k : SortId) → IsSort a k → sort b k ≡ sort a k) → (ks : List SortId) → AreSorts a ks → sort_list b ks ≡ sort_list a ks
unfolding sort_list
sorts_kept a b h [] i = refl
sorts_kept a b h (k ∷ ks) i = ap₂ (λ z zs. z ∷ zs) (h k i.0) (sorts_kept a b h ks i.1)

-- ---- lists of numbers, as callers read, push and set them

pub sort_list_length : (b : Nodes) (ks : List SortId) → length (sort_list b ks) ≡ length ks
unfolding sort_list
sort_list_length b [] = refl
sort_list_length b (k ∷ ks) = ap suc (sort_list_length b ks)

pub sort_list_at : (b : Nodes) (ks : List SortId) (n : ℕ) → n < length ks → get_or (sort_list b ks) n BoolSort ≡ sort b (get_or ks n record { 0 = 0 })
unfolding sort_list
sort_list_at b [] n h = absurd (omega arith)
sort_list_at b (k ∷ ks) zero h = refl
sort_list_at b (k ∷ ks) (suc n) h = sort_list_at b ks n (omega arith)

pub sort_within_at : (b : Nodes) (ks : List SortId) (n : ℕ) → AreSorts b ks → n < length ks → IsSort b (get_or ks n record { 0 = 0 })
sort_within_at b [] n i h = absurd (omega arith)
sort_within_at b (k ∷ ks) zero i h = i.0
sort_within_at b (k ∷ ks) (suc n) i h = sort_within_at b ks n i.1 (omega arith)

pub sort_list_push : (b : Nodes) (ks : List SortId) (k : SortId) → sort_list b (ks ++ k ∷ []) ≡ sort_list b ks ++ sort b k ∷ []
unfolding sort_list
sort_list_push b [] k = refl
sort_list_push b (j ∷ ks) k = ap (λ z. sort b j ∷ z) (sort_list_push b ks k)

pub sort_within_push : (b : Nodes) (ks : List SortId) (k : SortId) → AreSorts b ks → IsSort b k → AreSorts b (ks ++ k ∷ [])
sort_within_push b [] k h i = (i, tt)
sort_within_push b (j ∷ ks) k h i = (h.0, sort_within_push b ks k h.1 i)

pub sort_list_nil : (b : Nodes) → sort_list b [] ≡ []
unfolding sort_list
sort_list_nil b = refl

pub sort_list_map : (b : Nodes) (f : Sort → Sort) (ks : List SortId) → map (λ k. f (sort b k)) ks ≡ map f (sort_list b ks)
unfolding sort_list
sort_list_map b f [] = refl
sort_list_map b f (k ∷ ks) = ap (λ z. f (sort b k) ∷ z) (sort_list_map b f ks)

pub list_length : (b : Nodes) (ks : List TermId) → length (term_list b ks) ≡ length ks
unfolding term_list
list_length b [] = refl
list_length b (k ∷ ks) = ap suc (list_length b ks)

pub list_at : (b : Nodes) (ks : List TermId) (n : ℕ) (d : Term) (e : TermId) → n < length ks → get_or (term_list b ks) n d ≡ term b (get_or ks n e)
unfolding term_list
list_at b [] n d e h = absurd (omega arith)
list_at b (k ∷ ks) zero d e h = refl
list_at b (k ∷ ks) (suc n) d e h = list_at b ks n d e (omega arith)

pub within_at : (b : Nodes) (ks : List TermId) (n : ℕ) (e : TermId) → AreTerms b ks → n < length ks → IsTerm b (get_or ks n e)
within_at b [] n e i h = absurd (omega arith)
within_at b (k ∷ ks) zero e i h = i.0
within_at b (k ∷ ks) (suc n) e i h = within_at b ks n e i.1 (omega arith)

pub within_first : (b : Nodes) (ks : List TermId) (n : ℕ) → AreTerms b ks → n < length ks → IsTerm b (get_or ks n record { 0 = 0 })
within_first b ks n i h = within_at b ks n record { 0 = 0 } i h

pub list_nil : (b : Nodes) → term_list b [] ≡ []
unfolding term_list
list_nil b = refl

pub list_push : (b : Nodes) (ks : List TermId) (k : TermId) → term_list b (ks ++ k ∷ []) ≡ term_list b ks ++ term b k ∷ []
unfolding term_list
list_push b [] k = refl
list_push b (j ∷ ks) k = ap (λ z. term b j ∷ z) (list_push b ks k)

pub list_set : (b : Nodes) (ks : List TermId) (n : ℕ) (k : TermId) → term_list b (set ks n k) ≡ set (term_list b ks) n (term b k)
unfolding term_list
list_set b [] n k = refl
list_set b (j ∷ ks) zero k = refl
list_set b (j ∷ ks) (suc n) k = ap (λ z. term b j ∷ z) (list_set b ks n k)

pub within_push : (b : Nodes) (ks : List TermId) (k : TermId) → AreTerms b ks → IsTerm b k → AreTerms b (ks ++ k ∷ [])
within_push b [] k h i = (i, tt)
within_push b (j ∷ ks) k h i = (h.0, within_push b ks k h.1 i)

pub within_set : (b : Nodes) (ks : List TermId) (n : ℕ) (k : TermId) → AreTerms b ks → IsTerm b k → AreTerms b (set ks n k)
within_set b [] n k h i = tt
within_set b (j ∷ ks) zero k h i = (i, h.1)
within_set b (j ∷ ks) (suc n) k h i = (h.0, within_set b ks n k h.1 i)
