-- Entries in two logs whose rows stand at different places.
use Rattle.std.proofs.Common.{ℕ, zero, suc, ◌+◌, ◌-◌, ◌<◌, ◌≤◌, Bool, true, false, cond, nat_lt, List, [], ◌∷◌, ◌++◌, map, length, ◌≡◌, ◌⊎◌, inl, inr, refl, sym, ap, ◌∙◌, subst, arith}
use Rattle.std.proofs.lemmas.Bool.Decides.{Decides-ltb}
use Rattle.std.proofs.lemmas.List.{length-map, length_push}
use Rattle.std.proofs.lemmas.List.Elements.{Contains-append_left, Contains-append_right, Contains-append_cases}
use Rattle.std.proofs.lemmas.Option.{slice_get_within}
use Rattle.std.specs.Prelude.{Some, slice_get, slice_index_or, ℤ}
use Rattle.std.specs.List.{All, Contains}
use Rattle.sv_term.specs.Terms.{Term}
use Rattle.sv_log.specs.LogEntries.{Row, Entry, AddTerm, AddFact, Linear, Combine, Divide, SplitOn, Cut, CloseAt, Clash, columns}
use Rattle.sv_log.specs.Logs.{Bound, State, IsAllowed, IsAccepted, with_item}
use Rattle.sv_lin.specs.Eliminations.{holding, AreOfRows}
use Rattle.sv_lin.specs.Renumbering.{place_of, renumbered, HoldsRows, RenumberedAreAccepted}

-- ---- the last item of a list

get_before : {A : Type 0} (xs : List A) (y : A) (i : ℕ) → i < length xs → slice_get (xs ++ y ∷ []) i ≡ slice_get xs i
get_before [] y i h = absurd (omega (arith, h))
get_before (x ∷ xs) y zero h = refl
get_before (x ∷ xs) y (suc i) h = get_before xs y i (omega (arith, h))

get_last : {A : Type 0} (xs : List A) (y : A) → slice_get (xs ++ y ∷ []) (length xs) ≡ Some y
get_last [] y = refl
get_last (x ∷ xs) y = get_last xs y

before_or_last : (n i : ℕ) → i < n + 1 → (i < n) ⊎ (i ≡ n)
before_or_last zero zero h = inr refl
before_or_last zero (suc i) h = absurd (omega (arith, h))
before_or_last (suc n) zero h = inl (omega arith)
before_or_last (suc n) (suc i) h = elim (before_or_last n i (omega (arith, h))) [ inl a ↦ inl (omega (arith, a)) | inr b ↦ inr (ap suc b) ]

-- ---- two logs

-- what the log a has at i, the log s has at g i, and s has no other rows
pub record Follows (g : ℕ → ℕ) (a s : State) : Type 0 where
  pub terms : a.terms ≡ s.terms
  pub open_branch : s.closed ≡ false
  pub places : (i : ℕ) (r : Row) → slice_get a.items i ≡ Some (Bound r) → slice_get s.items (g i) ≡ Some (Bound r)
  pub within : (i : ℕ) → i < length a.items → g i < length s.items
  pub only : (r : Row) → Contains s.items (Bound r) → Contains a.items (Bound r)
  pub next : (k : ℕ) → g (length a.items + k) ≡ length s.items + k

module _ (g : ℕ → ℕ) (a s : State) (f : Follows g a s) (r : Row) where
  next_last : g (length a.items) ≡ length s.items
  next_last = let e = f.next 0 in let d = ap g (nothing (length a.items)) in d ∙ (e ∙ sym (nothing (length s.items)))
    where
      nothing : (n : ℕ) → n ≡ n + 0
      nothing n = omega arith

  more_places : (i : ℕ) (x : Row) → slice_get (a.items ++ Bound r ∷ []) i ≡ Some (Bound x) → slice_get (s.items ++ Bound r ∷ []) (g i) ≡ Some (Bound x)
  more_places i x e = go (before_or_last (length a.items) i (subst (λ n. i < n) (length_push a.items (Bound r)) (slice_get_within (a.items ++ Bound r ∷ []) i (Bound x) e)))
    where
      go : (i < length a.items) ⊎ (i ≡ length a.items) → slice_get (s.items ++ Bound r ∷ []) (g i) ≡ Some (Bound x)
      go (inl h) = get_before s.items (Bound r) (g i) (f.within i h) ∙ f.places i x (sym (get_before a.items (Bound r) i h) ∙ e)
      go (inr h) =
          ap (λ j. slice_get (s.items ++ Bound r ∷ []) (g j)) h
          ∙ (ap (slice_get (s.items ++ Bound r ∷ [])) next_last
          ∙ (get_last s.items (Bound r) ∙ (sym (get_last a.items (Bound r)) ∙ (ap (slice_get (a.items ++ Bound r ∷ [])) (sym h) ∙ e))))

  more_within : (i : ℕ) → i < length (a.items ++ Bound r ∷ []) → g i < length (s.items ++ Bound r ∷ [])
  more_within i h = go (before_or_last (length a.items) i (subst (λ n. i < n) (length_push a.items (Bound r)) h))
    where
      go : (i < length a.items) ⊎ (i ≡ length a.items) → g i < length (s.items ++ Bound r ∷ [])
      go (inl l) = let w = f.within i l in let p = length_push s.items (Bound r) in omega (arith, w, p)
      go (inr e) = let w = ap g e ∙ next_last in let p = length_push s.items (Bound r) in omega (arith, w, p)

  more_only : (x : Row) → Contains (s.items ++ Bound r ∷ []) (Bound x) → Contains (a.items ++ Bound r ∷ []) (Bound x)
  more_only x h = elim (Contains-append_cases s.items (Bound r ∷ []) (Bound x) h) [
    | inl i ↦ Contains-append_left a.items (Bound r ∷ []) (Bound x) (f.only x i)
    | inr j ↦ Contains-append_right a.items (Bound r ∷ []) (Bound x) j
  ]

  more_next : (k : ℕ) → g (length (a.items ++ Bound r ∷ []) + k) ≡ length (s.items ++ Bound r ∷ []) + k
  more_next k =
      ap (λ n. g (n + k)) (length_push a.items (Bound r))
      ∙ (ap g (shift (length a.items) k) ∙ (f.next (k + 1) ∙ (sym (shift (length s.items) k) ∙ ap (λ n. n + k) (sym (length_push s.items (Bound r))))))
    where
      shift : (n k : ℕ) → (n + 1) + k ≡ n + (k + 1)
      shift n k = omega arith

  more : Follows g (with_item (Bound r) a) (with_item (Bound r) s)
  more = record {
    terms = f.terms;
    open_branch = f.open_branch;
    places = more_places;
    within = more_within;
    only = more_only;
    next = more_next;
  }

module _ (g : ℕ → ℕ) where
  all_two : (n p q : ℕ) → All (λ i. i < n) (p ∷ q ∷ []) → (p < n) × (q < n)
  all_two n p q h = (h 0 p (omega arith), h 1 q (omega arith))

  two_all : (n p q : ℕ) → p < n → q < n → All (λ i. i < n) (p ∷ q ∷ [])
  two_all n p q a b zero d l = a
  two_all n p q a b (suc zero) d l = b
  two_all n p q a b (suc (suc k)) d l = absurd (omega (arith, l))

  one_all : (n p : ℕ) → p < n → All (λ i. i < n) (p ∷ [])
  one_all n p a zero d l = a
  one_all n p a (suc k) d l = absurd (omega (arith, l))

  allowed_combine : (a s : State) (m n : ℤ) (p q : ℕ) (r : Row) → Follows g a s → IsAllowed a (Combine m p n q r) → IsAllowed s (Combine m (g p) n (g q) r)
  allowed_combine a s m n p q r f h = record {
    timely = f.open_branch;
    terms = subst (λ (ts : List Term). All (λ i. i < length ts) (columns r.parts)) f.terms h.terms;
    items = let b = all_two (length a.items) p q h.items in two_all (length s.items) (g p) (g q) (f.within p b.0) (f.within q b.1);
    fitting = tt;
    new = λ c. h.new (f.only r c);
    given = tt;
    stated = (h.stated.0, h.stated.1, f.places p h.stated.0 h.stated.2, f.places q h.stated.1 h.stated.3, h.stated.4);
    branching = tt;
  }

  allowed_divide : (a s : State) (d : ℤ) (p : ℕ) (r : Row) → Follows g a s → IsAllowed a (Divide d p r) → IsAllowed s (Divide d (g p) r)
  allowed_divide a s d p r f h = record {
    timely = f.open_branch;
    terms = subst (λ (ts : List Term). All (λ i. i < length ts) (columns r.parts)) f.terms h.terms;
    items = one_all (length s.items) (g p) (f.within p (h.items 0 p (omega arith)));
    fitting = tt;
    new = λ c. h.new (f.only r c);
    given = tt;
    stated = (h.stated.0, f.places p h.stated.0 h.stated.1, h.stated.2);
    branching = tt;
  }

  relocated : (es : List Entry) (a s : State) → AreOfRows es → Follows g a s → IsAccepted a es → IsAccepted s (map (renumbered g) es)
  relocated [] a s o f h = tt
  relocated (Combine m p n q r ∷ es) a s o f h = (allowed_combine a s m n p q r f h.0, relocated es (with_item (Bound r) a) (with_item (Bound r) s) o (more g a s f r) h.1)
  relocated (Divide d p r ∷ es) a s o f h = (allowed_divide a s d p r f h.0, relocated es (with_item (Bound r) a) (with_item (Bound r) s) o (more g a s f r) h.1)
  relocated (AddTerm node ∷ es) a s o f h = absurd o
  relocated (AddFact rule sign n from ∷ es) a s o f h = absurd o
  relocated (Linear p forward r ∷ es) a s o f h = absurd o
  relocated (SplitOn n ∷ es) a s o f h = absurd o
  relocated (Cut ∷ es) a s o f h = absurd o
  relocated (CloseAt p ∷ es) a s o f h = absurd o
  relocated (Clash p q ∷ es) a s o f h = absurd o

-- ---- the given rows

get_bound : (rows : List Row) (i : ℕ) (r : Row) → slice_get (map Bound rows) i ≡ Some (Bound r) → slice_get rows i ≡ Some r
get_bound [] i r e = cc e
get_bound (x ∷ rows) zero r e = ap Some (cc e)
get_bound (x ∷ rows) (suc i) r e = get_bound rows i r e

contains_bound : (rows : List Row) (r : Row) → Contains rows r → Contains (map Bound rows) (Bound r)
contains_bound rows r c = (c.0, let l = length-map rows Bound in let h = c.1 in omega (arith, l, h), at rows c.0 c.1 c.2)
  where
    at : (rows : List Row) (k : ℕ) → k < length rows → slice_index_or rows k r ≡ r → slice_index_or (map Bound rows) k (Bound r) ≡ Bound r
    at [] k h e = absurd (omega (arith, h))
    at (x ∷ xs) zero h e = ap Bound e
    at (x ∷ xs) (suc k) h e = at xs k (omega (arith, h)) e

there : (xs : List Row) (i : ℕ) → i < length xs → (r : Row) × (slice_get xs i ≡ Some r)
there [] i h = absurd (omega (arith, h))
there (x ∷ xs) zero h = (x, refl)
there (x ∷ xs) (suc i) h = there xs i (omega (arith, h))

module _ (s : State) (rows : List Row) (f : ℕ → ℕ) (h : HoldsRows s rows f) where
  abbrev g : ℕ → ℕ
  g = place_of f (length rows) (length s.items)

  given_place : (i : ℕ) → i < length rows → g i ≡ f i
  given_place i l = ap (λ b. cond b (f i) (length s.items + (i - length rows))) ((Decides-ltb i (length rows)).1 l)

  made_place : (i : ℕ) → length rows ≤ i → g i ≡ length s.items + (i - length rows)
  made_place i l = go (nat_lt i (length rows)) refl
    where
      go : (b : Bool) → nat_lt i (length rows) ≡ b → cond b (f i) (length s.items + (i - length rows)) ≡ length s.items + (i - length rows)
      go true e = absurd (let d = (Decides-ltb i (length rows)).0 e in omega (arith, d, l))
      go false e = refl

  follows : Follows g (holding s.terms rows) s
  follows = record {
    terms = refl;
    open_branch = h.open_branch;
    places = λ i r e.
        let b = get_bound rows i r e in
        ap (slice_get s.items) (given_place i (slice_get_within rows i r b)) ∙ h.places i r b;
    within = λ i l.
        let k : i < length rows = let m = length-map rows Bound in omega (arith, l, m) in
        let t = there rows i k in
        subst (λ j. j < length s.items) (sym (given_place i k)) (slice_get_within s.items (f i) (Bound t.0) (h.places i t.0 t.1));
    only = λ r c. contains_bound rows r (h.only r c);
    next = λ k.
        let m = length-map rows Bound in
        ap (λ n. g (n + k)) m ∙ (made_place (length rows + k) (omega arith) ∙ left_over (length s.items) (length rows) k);
  }
    where
      left_over : (n l k : ℕ) → n + ((l + k) - l) ≡ n + k
      left_over n l k = omega arith

pub renumbered_accepted : RenumberedAreAccepted
renumbered_accepted s rows f es h e =
    relocated (place_of f (length rows) (length s.items)) es (holding s.terms rows) s e.of_rows (follows s rows f h) (e.accepted s.terms h.columns)
