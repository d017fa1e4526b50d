-- The places of keys in a table.
use Rattle.std.proofs.Common.{ℕ, zero, suc, Bool, true, false, cond, ◌||◌, List, [], ◌∷◌, ◌++◌, ◌≡◌, inl, inr, length, map, slice_get, position, Option, Some, is_some, refl, ap, ◌∙◌, subst, if◌then◌else◌, arith}
use Rattle.std.specs.List.{list_any}
use Rattle.std.specs.Map.{keys_of, lookup}
use Rattle.std.proofs.lemmas.List.Quantifiers.{position-Some}
use Rattle.std.proofs.lemmas.Option.{slice_get_cases, same_Some}
use Rattle.indexmap.specs.IndexMap.{insert_entry}
use Rattle.indexmap.specs.IndexSet.{insert_key}

neither : (a b : Bool) → (a || b) ≡ false → (a ≡ false) × (b ≡ false)
neither true b e = cc e
neither false b e = (refl, e)

other : {X : Type 0} → (b : Bool) (x : X) (o : Option X) → is_some (cond b (Some x) o) ≡ false → (b ≡ false) × (is_some o ≡ false)
other true x o e = cc e
other false x o e = (refl, e)

module _ {K : Type 0} (p : K → Bool) where
  -- the key at the place that was found passes
  pub found_at : (q : K) (ks : List K) (i : ℕ) → position p ks ≡ Some i → (k : K) × (slice_get ks i ≡ Some k) × (p k ≡ true)
  found_at q ks i e =
      elim (slice_get_cases ks i).1 [
        | inl w ↦ (w.0, w.2, subst (λ z. p z ≡ true) w.3 (position-Some p ks i w.0 e).1)
        | inr w ↦ absurd (let l = (position-Some p ks i q e).0 in omega (arith, l, w.0))
      ]

  -- no key passes
  pub none_at : (ks : List K) → list_any p ks ≡ false → (j : ℕ) (k : K) → slice_get ks j ≡ Some k → p k ≡ false
  none_at [] e j k at = cc
  none_at (x ∷ ks) e zero k at = subst (λ z. p z ≡ false) (same_Some x k at) (neither (p x) (list_any p ks) e).0
  none_at (x ∷ ks) e (suc j) k at = none_at ks (neither (p x) (list_any p ks) e).1 j k at

  pub no_key_at : {X : Type 0} → (es : List (K × X)) → is_some (lookup p es) ≡ false → (j : ℕ) (k : K) → slice_get (keys_of es) j ≡ Some k → p k ≡ false
  no_key_at [] e j k at = cc
  no_key_at (x ∷ es) e zero k at = subst (λ z. p z ≡ false) (same_Some x.0 k at) (other (p x.0) x.1 (lookup p es) e).0
  no_key_at (x ∷ es) e (suc j) k at = no_key_at es (other (p x.0) x.1 (lookup p es) e).1 j k at

  pub any_not : (ks : List K) → ((j : ℕ) (k : K) → slice_get ks j ≡ Some k → p k ≡ false) → list_any p ks ≡ false
  any_not [] h = refl
  any_not (x ∷ ks) h = ap (λ b. b || list_any p ks) (h 0 x refl) ∙ any_not ks (λ j k e. h (suc j) k e)

-- a key that is not there goes last
pub key_last : {K : Type 0} → (eq : K → K → Bool) (ks : List K) (k : K) → ((j : ℕ) (x : K) → slice_get ks j ≡ Some x → eq k x ≡ false) → insert_key eq ks k ≡ ks ++ k ∷ []
key_last eq ks k h = ap (λ b. if b then ks else ks ++ k ∷ []) (any_not (eq k) ks h)

pub entry_last : {K X : Type 0} → (eq : K → K → Bool) (es : List (K × X)) (k : K) (v : X) → ((j : ℕ) (x : K) → slice_get (keys_of es) j ≡ Some x → eq k x ≡ false) → insert_entry eq es k v ≡ es ++ (k, v) ∷ []
entry_last eq [] k v h = refl
entry_last eq (e ∷ es) k v h =
    ap (λ b. if b then ((e.0, v) ∷ es) else (e ∷ insert_entry eq es k v)) (h 0 e.0 refl) ∙ ap (λ z. e ∷ z) (entry_last eq es k v (λ j x a. h (suc j) x a))

-- the key and the value of an entry
pub entry_at : {K X : Type 0} → (es : List (K × X)) (i : ℕ) (v : X) → slice_get (map (λ e. e.1) es) i ≡ Some v → (k : K) × (slice_get es i ≡ Some (k, v))
entry_at [] i v e = cc
entry_at (x ∷ es) zero v e = (x.0, ap (λ z. Some (x.0, z)) (same_Some x.1 v e))
entry_at (x ∷ es) (suc i) v e = entry_at es i v e

pub key_at : {K X : Type 0} → (es : List (K × X)) (i : ℕ) (e : K × X) → slice_get es i ≡ Some e → slice_get (map (λ e. e.0) es) i ≡ Some e.0
key_at [] i e a = cc
key_at (x ∷ es) zero e a = ap (λ z. Some z.0) (same_Some x e a)
key_at (x ∷ es) (suc i) e a = key_at es i e a

pub length_map : {A B : Type 0} → (f : A → B) (xs : List A) → length (map f xs) ≡ length xs
length_map f [] = refl
length_map f (x ∷ xs) = ap suc (length_map f xs)

pub map_push : {A B : Type 0} → (f : A → B) (xs : List A) (x : A) → map f (xs ++ x ∷ []) ≡ map f xs ++ f x ∷ []
map_push f [] x = refl
map_push f (y ∷ xs) x = ap (λ z. f y ∷ z) (map_push f xs x)

pub get_map : {A B : Type 0} → (f : A → B) (xs : List A) (i : ℕ) (x : A) → slice_get xs i ≡ Some x → slice_get (map f xs) i ≡ Some (f x)
get_map f [] i x e = cc
get_map f (y ∷ xs) zero x e = ap Some (ap f (same_Some y x e))
get_map f (y ∷ xs) (suc i) x e = get_map f xs i x e

pub map_get : {A B : Type 0} → (f : A → B) (xs : List A) (i : ℕ) (y : B) → slice_get (map f xs) i ≡ Some y → (x : A) × (slice_get xs i ≡ Some x) × (f x ≡ y)
map_get f [] i y e = cc
map_get f (x ∷ xs) zero y e = (x, refl, same_Some (f x) y e)
map_get f (x ∷ xs) (suc i) y e = map_get f xs i y e
