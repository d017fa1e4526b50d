-- What holds of the terms of a goal in the order of a log: each stands behind its arguments, and none stands twice.
use Rattle.std.proofs.Common.{ℕ, zero, suc, ◌<◌, ◌≤◌, Bool, true, false, cond, ◌||◌, List, [], ◌∷◌, ◌++◌, ◌≡◌, ◌⊎◌, inl, inr, length, map, take, slice_get, Option, Some, None, MatchOption, IsSome, refl, sym, ap, ap₂, ◌∙◌, subst, arith}
use Rattle.std.specs.List.{Contains}
use Rattle.std.proofs.lemmas.List.Elements.{All-nil, All-cons}
use Rattle.sv_term.specs.Terms.{Term, App, Terms, End, More, same_term}
use Rattle.sv_term.specs.Banks.{Nodes, IsTerm, AreTerms, args_by, term, term_list}
use Rattle.sv_term.specs.Banks as banks
use Rattle.sv_term.specs.declared.node.TermId.{TermId}
use Rattle.sv_term.proofs.Same.{term_is, term_self, or_true}
use Rattle.sv_term.proofs.BankLists.{of_push}
use Rattle.sv_log.specs.Logs.{nth_terms, with_term, with_terms_of, with_terms_of_all}
use Rattle.sv_sort_room.proofs.Building.{contains_at, at_contains, front_of}
use Rattle.sv_term_room.specs.TermRows.{AreBelow}
use Rattle.sv_term_room.proofs.TermTrees.{nth_got}
use Rattle.sv_goal_terms.proofs.WalkLaws.{has, Has, HasAll, IsComplete, walks, walks_all, walked}
use Rattle.sv_goal_room.specs.GoalFilling.{AreAmong, ArePlaces}

-- ---- places of lists

pub taken_front : {A : Type 0} (k : ℕ) (xs ys : List A) → k ≤ length xs → take k (xs ++ ys) ≡ take k xs
taken_front zero xs ys l = refl
taken_front (suc k) [] ys l = absurd (omega (arith, l))
taken_front (suc k) (x ∷ xs) ys l = ap (λ z. x ∷ z) (taken_front k xs ys (omega (arith, l)))

pub taken_at : {A : Type 0} (m : ℕ) (xs : List A) (n : ℕ) (x : A) → n < m → slice_get xs n ≡ Some x → slice_get (take m xs) n ≡ Some x
taken_at zero xs n x l e = absurd (omega (arith, l))
taken_at (suc m) [] n x l e = cc e
taken_at (suc m) (y ∷ xs) zero x l e = e
taken_at (suc m) (y ∷ xs) (suc n) x l e = taken_at m xs n x (omega (arith, l)) e

pub at_taken : {A : Type 0} (m : ℕ) (xs : List A) (n : ℕ) (x : A) → slice_get (take m xs) n ≡ Some x → (n < m) × (slice_get xs n ≡ Some x)
at_taken zero xs n x e = cc e
at_taken (suc m) [] n x e = cc e
at_taken (suc m) (y ∷ xs) zero x e = (omega arith, e)
at_taken (suc m) (y ∷ xs) (suc n) x e = let r = at_taken m xs n x e in (omega (arith, r.0), r.1)

pub mapped : {A B : Type 0} (f : A → B) (xs : List A) (n : ℕ) (x : A) → slice_get xs n ≡ Some x → slice_get (map f xs) n ≡ Some (f x)
mapped f [] n x e = cc e
mapped f (y ∷ xs) zero x e = let same : y ≡ x = cc e in ap (λ z. Some (f z)) same
mapped f (y ∷ xs) (suc n) x e = mapped f xs n x e

pub mapped_from : {A B : Type 0} (f : A → B) (xs : List A) (n : ℕ) (y : B) → slice_get (map f xs) n ≡ Some y → (x : A) × (slice_get xs n ≡ Some x) × (f x ≡ y)
mapped_from f [] n y e = cc e
mapped_from f (x ∷ xs) zero y e = (x, refl, cc e)
mapped_from f (x ∷ xs) (suc n) y e = mapped_from f xs n y e

pub mapped_take : {A B : Type 0} (f : A → B) (m : ℕ) (xs : List A) → map f (take m xs) ≡ take m (map f xs)
mapped_take f zero xs = refl
mapped_take f (suc m) [] = refl
mapped_take f (suc m) (x ∷ xs) = ap (λ z. f x ∷ z) (mapped_take f m xs)

pub take_more : {A : Type 0} (xs : List A) (n : ℕ) (x : A) → slice_get xs n ≡ Some x → take (suc n) xs ≡ take n xs ++ x ∷ []
take_more [] n x e = cc e
take_more (y ∷ xs) zero x e = let same : y ≡ x = cc e in ap (λ z. z ∷ []) same
take_more (y ∷ xs) (suc n) x e = ap (λ z. y ∷ z) (take_more xs n x e)

pub take_whole : {A : Type 0} (xs : List A) → take (length xs) xs ≡ xs
take_whole [] = refl
take_whole (x ∷ xs) = ap (λ z. x ∷ z) (take_whole xs)

pub past_end : {A : Type 0} (xs : List A) (n : ℕ) → slice_get xs n ≡ None → length xs ≤ n
past_end [] n e = omega arith
past_end (x ∷ xs) zero e = cc e
past_end (x ∷ xs) (suc n) e = let r = past_end xs n e in omega (arith, r)

or_first : (a b : Bool) → a ≡ true → (a || b) ≡ true
or_first true b e = refl
or_first false b e = cc e

or_second : (a b : Bool) → b ≡ true → (a || b) ≡ true
or_second true b e = refl
or_second false b e = e

pub has_at : (ts : List Term) (n : ℕ) (t : Term) → slice_get ts n ≡ Some t → Has ts t
has_at [] n t e = cc e
has_at (u ∷ ts) zero t e = let same : u ≡ t = cc e in or_first _ _ (ap (same_term t) same ∙ term_self t)
has_at (u ∷ ts) (suc n) t e = or_second _ _ (has_at ts n t e)

pub at_has : (ts : List Term) (t : Term) → Has ts t → (n : ℕ) × (slice_get ts n ≡ Some t)
at_has [] t h = cc h
at_has (u ∷ ts) t h = go (or_true (same_term t u) (has ts t) h) (λ e. at_has ts t e)
  where
    go : (same_term t u ≡ true) ⊎ (has ts t ≡ true) → (has ts t ≡ true → (n : ℕ) × (slice_get ts n ≡ Some t)) → (n : ℕ) × (slice_get (u ∷ ts) n ≡ Some t)
    go (inl e) f = (0, ap Some (sym (term_is t u e)))
    go (inr e) f = let r = f e in (suc r.0, r.1)

-- ---- each term behind its arguments, and none twice

abbrev pub HasArgs : List Term → Term → Type 0
HasArgs ts (App x us) = HasAll ts us

abbrev pub IsGrown : List Term → Type 0
IsGrown ts = (k : ℕ) (t : Term) → slice_get ts k ≡ Some t → HasArgs (take k ts) t × (has (take k ts) t ≡ false)

grown_more : (ts : List Term) (t : Term) → IsGrown ts → HasArgs ts t → has ts t ≡ false → IsGrown (ts ++ t ∷ [])
grown_more ts t g h n k u e = go (of_push ts t k u e)
  where
    go : ((k < length ts) × (slice_get ts k ≡ Some u)) ⊎ ((k ≡ length ts) × (u ≡ t)) → HasArgs (take k (ts ++ t ∷ [])) u × (has (take k (ts ++ t ∷ [])) u ≡ false)
    go (inl l) = subst (λ (l : List Term). HasArgs l u × (has l u ≡ false)) (sym (taken_front k ts (t ∷ []) (let w = l.0 in omega (arith, w)))) (g k u l.1)
    go (inr r) =
        let front : take k (ts ++ t ∷ []) ≡ ts = ap (λ (i : ℕ). take i (ts ++ t ∷ [])) r.0 ∙ front_of ts (t ∷ []) in
        subst (λ (l : List Term). HasArgs l u × (has l u ≡ false)) (sym front) (subst (λ (v : Term). HasArgs ts v × (has ts v ≡ false)) (sym r.1) (h, n))

with_grown : (ts : List Term) (t : Term) → IsGrown ts → HasArgs ts t → IsGrown (with_term ts t)
with_grown ts t g h = go (has ts t) refl
  where
    go : (b : Bool) → has ts t ≡ b → IsGrown (cond b ts (ts ++ t ∷ []))
    go true e = g
    go false e = grown_more ts t g h e

all_walked : (ts : List Term) (us : Terms) → IsComplete ts → HasAll (with_terms_of_all ts us) us
all_walked ts End c = tt
all_walked ts (More u us) c = let w = walks ts u c in ((walks_all _ us w.complete).kept u (walked ts u), all_walked (with_terms_of ts u) us w.complete)

mutual
  grown : (ts : List Term) (t : Term) → IsComplete ts → IsGrown ts → IsGrown (with_terms_of ts t)
  grown ts (App x us) c g = with_grown (with_terms_of_all ts us) (App x us) (all_grown ts us c g) (all_walked ts us c)

  all_grown : (ts : List Term) (us : Terms) → IsComplete ts → IsGrown ts → IsGrown (with_terms_of_all ts us)
  all_grown ts End c g = g
  all_grown ts (More u us) c g = all_grown (with_terms_of ts u) us (walks ts u c).complete (grown ts u c g)

pub grown_from_none : (t : Term) → IsGrown (with_terms_of [] t)
grown_from_none t = grown [] t (λ x us h. cc h) (λ k u e. cc e)

pub holds_goal : (t : Term) → Has (with_terms_of [] t) t
holds_goal t = walked [] t

either_way : (i j : ℕ) → (i < j) ⊎ (j ≤ i)
either_way zero zero = inr (omega arith)
either_way zero (suc j) = inl (omega arith)
either_way (suc i) zero = inr (omega arith)
either_way (suc i) (suc j) = go (either_way i j)
  where
    go : (i < j) ⊎ (j ≤ i) → (suc i < suc j) ⊎ (suc j ≤ suc i)
    go (inl l) = inl (omega (arith, l))
    go (inr l) = inr (omega (arith, l))

not_before : (ts : List Term) → IsGrown ts → (i j : ℕ) (t : Term) → slice_get ts i ≡ Some t → slice_get ts j ≡ Some t → i < j → ⊥
not_before ts g i j t e f l =
    let there : Has (take j ts) t = has_at (take j ts) i t (taken_at j ts i t l e) in
    let none = (g j t f).1 in
    cc (there, none)

pub no_two : (ts : List Term) → IsGrown ts → (i j : ℕ) (t : Term) → slice_get ts i ≡ Some t → slice_get ts j ≡ Some t → i ≡ j
no_two ts g i j t e f = go (either_way i j) (either_way j i)
  where
    go : (i < j) ⊎ (j ≤ i) → (j < i) ⊎ (i ≤ j) → i ≡ j
    go (inl l) r = absurd (not_before ts g i j t e f l)
    go (inr l) (inl r) = absurd (not_before ts g j i t f e r)
    go (inr l) (inr r) = omega (arith, l, r)

-- ---- the places of arguments

-- the arguments of a term that stand before it have numbers below its own
pub places_below : (g : TermId → Term) (order : List TermId) (m : ℕ) → IsGrown (map g order) → (ks : List TermId) (ns : List ℕ) → ArePlaces order ks ns → HasAll (take m (map g order)) (args_by g ks)
    → AreBelow m ns × (nth_terms (take m (map g order)) ns ≡ args_by g ks)
places_below g order m w [] [] p h = (All-nil (λ k. k < m), refl)
places_below g order m w [] (n ∷ ns) p h = absurd p
places_below g order m w (k ∷ ks) [] p h = absurd p
places_below g order m w (k ∷ ks) (n ∷ ns) p h =
    let r = at_has (take m (map g order)) (g k) h.0 in
    let t = at_taken m (map g order) r.0 (g k) r.1 in
    let own : slice_get (map g order) n ≡ Some (g k) = mapped g order n k p.0 in
    let same : n ≡ r.0 = no_two (map g order) w n r.0 (g k) own t.1 in
    let l : n < m = let u = t.0 in omega (arith, same, u) in
    let rest = places_below g order m w ks ns p.1 h.1 in
    (All-cons (λ i. i < m) n ns l rest.0, ap₂ More (nth_got (take m (map g order)) n (g k) (taken_at m (map g order) n (g k) l own)) rest.1)

pub is_term_at : (b : Nodes) (order : List TermId) (n : ℕ) (k : TermId) → AreTerms b order → slice_get order n ≡ Some k → IsTerm b k
is_term_at b [] n k w e = cc e
is_term_at b (j ∷ order) zero k w e = let same : j ≡ k = cc e in subst (IsTerm b) same w.0
is_term_at b (j ∷ order) (suc n) k w e = is_term_at b order n k w.1 e

pub within_order : (b : Nodes) (order : List TermId) (k : TermId) → AreTerms b order → Contains order k → IsTerm b k
within_order b order k w c = let a = at_contains order k c in is_term_at b order a.0 k w a.1

module _ (b : Nodes) (one : (j k : TermId) → IsTerm b j → IsTerm b k → term b j ≡ term b k → j ≡ k) (order : List TermId) (within : AreTerms b order) where
  pub one_is_there : (k : TermId) → IsTerm b k → Has (map (term b) order) (term b k) → Contains order k
  one_is_there k i h =
      let r = at_has (map (term b) order) (term b k) h in
      let f = mapped_from (term b) order r.0 (term b k) r.1 in
      let same : f.0 ≡ k = one f.0 k (is_term_at b order r.0 f.0 within f.1) i f.2 in
      contains_at order r.0 k (f.1 ∙ ap Some same)

  pub all_there : (m : ℕ) (ks : List TermId) → AreTerms b ks → HasAll (take m (map (term b) order)) (args_by (term b) ks) → AreAmong order ks
  all_there m [] i h = tt
  all_there m (k ∷ ks) i h =
      let r = at_has (take m (map (term b) order)) (term b k) h.0 in
      let t = at_taken m (map (term b) order) r.0 (term b k) r.1 in
      (one_is_there k i.0 (has_at (map (term b) order) r.0 (term b k) t.1), all_there m ks i.1 h.1)

pub args_within : (b : Nodes) (m : ℕ) (ks : List TermId) → m ≤ length b.nodes → banks.AreBelow m ks → AreTerms b ks
args_within b m [] l h = tt
args_within b m (k ∷ ks) l h = (let i = h.0 in omega (arith, i, l), args_within b m ks l h.1)

-- ---- lists of places, one after another

pub places_none : (order ks : List TermId) → ArePlaces order (take 0 ks) []
places_none order ks = tt

pub places_more : (order ks : List TermId) (ns : List ℕ) (k : TermId) (n : ℕ) → ArePlaces order (take (length ns) ks) ns → slice_get ks (length ns) ≡ Some k → slice_get order n ≡ Some k
    → ArePlaces order (take (length (ns ++ n ∷ [])) ks) (ns ++ n ∷ [])
places_more order [] ns k n p e f = cc e
places_more order (j ∷ ks) [] k n p e f = let same : j ≡ k = cc e in (f ∙ ap Some (sym same), tt)
places_more order (j ∷ ks) (m ∷ ns) k n p e f = (p.0, places_more order ks ns k n p.1 e f)

pub places_all : (order ks : List TermId) (ns : List ℕ) → ArePlaces order (take (length ns) ks) ns → slice_get ks (length ns) ≡ None → ArePlaces order ks ns
places_all order [] [] p e = tt
places_all order [] (n ∷ ns) p e = absurd p
places_all order (k ∷ ks) [] p e = cc e
places_all order (k ∷ ks) (n ∷ ns) p e = (p.0, places_all order ks ns p.1 e)

pub at_among : (order ks : List TermId) (n : ℕ) (k : TermId) → AreAmong order ks → slice_get ks n ≡ Some k → Contains order k
at_among order [] n k h e = cc e
at_among order (j ∷ ks) zero k h e = let same : j ≡ k = cc e in subst (Contains order) same h.0
at_among order (j ∷ ks) (suc n) k h e = at_among order ks n k h.1 e

-- ---- what the number of a term says

pub has_number : (order : List TermId) (k : TermId) (r : Option ℕ) → MatchOption r (Contains order k → ⊥) (λ n. slice_get order n ≡ Some k) → Contains order k → IsSome r
has_number order k None h c = absurd (h c)
has_number order k (Some n) h c = refl

pub number_is : (order : List TermId) (k : TermId) (r : Option ℕ) → MatchOption r (Contains order k → ⊥) (λ n. slice_get order n ≡ Some k) → (n : ℕ) → r ≡ Some n → slice_get order n ≡ Some k
number_is order k None h n e = cc e
number_is order k (Some m) h n e = let same : m ≡ n = cc e in ap (slice_get order) (sym same) ∙ h

pub at_length : (ks : List TermId) (n : ℕ) (k : TermId) (ns : List ℕ) → n ≡ length ns → slice_get ks n ≡ Some k → slice_get ks (length ns) ≡ Some k
at_length ks n k ns e f = ap (slice_get ks) (sym e) ∙ f
