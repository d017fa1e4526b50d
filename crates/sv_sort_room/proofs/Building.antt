-- Lists of trees that are built: what stands at a place, what a push and a cut leave, and that the trees differ.
use Rattle.std.proofs.Common.{Option, Some, None, ℕ, zero, suc, ◌+◌, ◌<◌, ◌≤◌, List, [], ◌∷◌, ◌++◌, ◌≡◌, ◌⊎◌, inl, inr, length, take, drop, get_or, slice_get, refl, sym, ap, ap₂, ◌∙◌, subst, arith}
use Rattle.std.specs.List.{Contains}
use Rattle.std.proofs.lemmas.List.{append-nil, append_assoc, length_push, length-append, take_all, take-append-drop, get_or_append_left}
use Rattle.std.proofs.lemmas.Option.{slice_get_within, slice_get-get_or, get_or_from_slice_get, same_Some, none-some}
use Rattle.sv_sort_room.specs.BuiltLists.{built, AreNew}

-- ---- places of lists

module _ {A : Type 0} where
  pub contains_at : (xs : List A) (k : ℕ) (x : A) → slice_get xs k ≡ Some x → Contains xs x
  contains_at xs k x e = (k, slice_get_within xs k x e, get_or_from_slice_get xs k x x e)

  pub at_contains : (xs : List A) (x : A) → Contains xs x → (k : ℕ) × (slice_get xs k ≡ Some x)
  at_contains xs x c = (c.0, slice_get-get_or xs c.0 x c.1 ∙ ap (λ y. Some y) c.2)

  pub get_front : (xs ys : List A) (k : ℕ) (x : A) → slice_get xs k ≡ Some x → slice_get (xs ++ ys) k ≡ Some x
  get_front [] ys k x e = absurd (none-some x e)
  get_front (y ∷ xs) ys zero x e = e
  get_front (y ∷ xs) ys (suc k) x e = get_front xs ys k x e

  pub get_last : (xs : List A) (x : A) (ys : List A) → slice_get (xs ++ x ∷ ys) (length xs) ≡ Some x
  get_last [] x ys = refl
  get_last (y ∷ xs) x ys = get_last xs x ys

  pub pushed_at : (xs : List A) (x : A) (k : ℕ) (y : A) → slice_get (xs ++ x ∷ []) k ≡ Some y → (slice_get xs k ≡ Some y) ⊎ ((k ≡ length xs) × (x ≡ y))
  pushed_at [] x zero y e = inr (refl, same_Some x y e)
  pushed_at [] x (suc k) y e = absurd (none-some y e)
  pushed_at (z ∷ xs) x zero y e = inl e
  pushed_at (z ∷ xs) x (suc k) y e = go (pushed_at xs x k y e)
    where
      go : (slice_get xs k ≡ Some y) ⊎ ((k ≡ length xs) × (x ≡ y)) → (slice_get xs k ≡ Some y) ⊎ ((suc k ≡ suc (length xs)) × (x ≡ y))
      go (inl f) = inl f
      go (inr f) = inr (ap suc f.0, f.1)

  -- nothing stands at two places
  abbrev pub Differ : List A → Type 0
  Differ xs = (j k : ℕ) (x : A) → slice_get xs j ≡ Some x → slice_get xs k ≡ Some x → j ≡ k

  pub differ_push : (xs : List A) (x : A) → Differ xs → (Contains xs x → ⊥) → Differ (xs ++ x ∷ [])
  differ_push xs x d n j k y e f = go (pushed_at xs x j y e) (pushed_at xs x k y f)
    where
      go : (slice_get xs j ≡ Some y) ⊎ ((j ≡ length xs) × (x ≡ y)) → (slice_get xs k ≡ Some y) ⊎ ((k ≡ length xs) × (x ≡ y)) → j ≡ k
      go (inl p) (inl q) = d j k y p q
      go (inl p) (inr q) = absurd (n (contains_at xs j x (p ∙ ap (λ z. Some z) (sym q.1))))
      go (inr p) (inl q) = absurd (n (contains_at xs k x (q ∙ ap (λ z. Some z) (sym p.1))))
      go (inr p) (inr q) = p.0 ∙ sym q.0

-- ---- built lists

pub front_of : {X : Type 0} (xs ys : List X) → take (length xs) (xs ++ ys) ≡ xs
front_of [] ys = refl
front_of (x ∷ xs) ys = ap (λ z. x ∷ z) (front_of xs ys)

take_none : {X : Type 0} (n : ℕ) → take {A = X} n [] ≡ []
take_none zero = refl
take_none (suc n) = refl

module _ {A C : Type 0} (tree : List A → C → A) where
  pub built_more : (ts : List A) (cs : List C) → (more : List A) × (built tree ts cs ≡ ts ++ more)
  built_more ts [] = ([], sym (append-nil ts))
  built_more ts (c ∷ cs) = let r = built_more (ts ++ tree ts c ∷ []) cs in (tree ts c ∷ r.0, r.1 ∙ append_assoc ts (tree ts c ∷ []) r.0)

  pub built_length : (ts : List A) (cs : List C) → length (built tree ts cs) ≡ length ts + length cs
  built_length ts [] = omega arith
  built_length ts (c ∷ cs) = let r = built_length (ts ++ tree ts c ∷ []) cs in omega (arith, r, length_push ts (tree ts c))

  pub built_append : (ts : List A) (cs ds : List C) → built tree ts (cs ++ ds) ≡ built tree (built tree ts cs) ds
  built_append ts [] ds = refl
  built_append ts (c ∷ cs) ds = built_append (ts ++ tree ts c ∷ []) cs ds

  pub built_take : (ts : List A) (n : ℕ) (cs : List C) → take (length ts + n) (built tree ts cs) ≡ built tree ts (take n cs)
  built_take ts n [] = take_all (length ts + n) ts (omega arith) ∙ sym (ap (built tree ts) (take_none n))
  built_take ts zero (c ∷ cs) =
      let r = built_more ts (c ∷ cs) in
      let o : length ts + zero ≡ length ts = omega arith in
      ap₂ take o r.1 ∙ front_of ts r.0
  built_take ts (suc n) (c ∷ cs) =
      let o : length ts + suc n ≡ length (ts ++ tree ts c ∷ []) + n = omega (arith, length_push ts (tree ts c)) in
      ap (λ x. take x (built tree (ts ++ tree ts c ∷ []) cs)) o ∙ built_take (ts ++ tree ts c ∷ []) n cs

  module _ (P : List A → C → Type 0) where
    pub new_push : (ts : List A) (cs : List C) (c : C) → AreNew tree P ts cs → P (built tree ts cs) c → (Contains (built tree ts cs) (tree (built tree ts cs) c) → ⊥)
        → AreNew tree P ts (cs ++ c ∷ [])
    new_push ts [] c h p n = (p, n, tt)
    new_push ts (d ∷ cs) c h p n = (h.0, h.1, new_push (ts ++ tree ts d ∷ []) cs c h.2 p n)

    pub new_take : (ts : List A) (n : ℕ) (cs : List C) → AreNew tree P ts cs → AreNew tree P ts (take n cs)
    new_take ts zero [] h = tt
    new_take ts (suc n) [] h = tt
    new_take ts zero (c ∷ cs) h = tt
    new_take ts (suc n) (c ∷ cs) h = (h.0, h.1, new_take (ts ++ tree ts c ∷ []) n cs h.2)

    -- the node of a place, and its tree, by the trees before it
    pub new_at : (ts : List A) (cs : List C) (k : ℕ) (c : C) → AreNew tree P ts cs → slice_get cs k ≡ Some c
        → P (built tree ts (take k cs)) c × (slice_get (built tree ts cs) (length ts + k) ≡ Some (tree (built tree ts (take k cs)) c))
    new_at ts [] k c h e = absurd (none-some c e)
    new_at ts (d ∷ cs) zero c h e =
        let same : d ≡ c = same_Some d c e in
        let r = built_more (ts ++ tree ts d ∷ []) cs in
        let o : length ts + zero ≡ length ts = omega arith in (
          subst (λ x. P ts x) same h.0,
          ap₂ slice_get (r.1 ∙ append_assoc ts (tree ts d ∷ []) r.0) o ∙ (get_last ts (tree ts d) r.0 ∙ ap (λ x. Some (tree ts x)) same),
        )
    new_at ts (d ∷ cs) (suc k) c h e =
        let r = new_at (ts ++ tree ts d ∷ []) cs k c h.2 e in
        let o : length ts + suc k ≡ length (ts ++ tree ts d ∷ []) + k = omega (arith, length_push ts (tree ts d)) in
        (r.0, ap (λ x. slice_get (built tree (ts ++ tree ts d ∷ []) cs) x) o ∙ r.1)

    pub new_differ : (ts : List A) (cs : List C) → Differ ts → AreNew tree P ts cs → Differ (built tree ts cs)
    new_differ ts [] d h = d
    new_differ ts (c ∷ cs) d h = new_differ (ts ++ tree ts c ∷ []) cs (differ_push ts (tree ts c) d h.1) h.2
