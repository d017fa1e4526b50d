-- What a list has, by recursion, and what it has once.
use Rattle.std.proofs.Common.{ℕ, zero, suc, ◌≡◌, ◌∙◌, ◌+◌, ◌-◌, ◌<◌, ◌⊎◌, inl, inr, List, [], ◌∷◌, ◌++◌, length, reverse, get_or, refl, sym, ap, subst, arith}
use Rattle.std.specs.List.{Contains}
use Rattle.std.proofs.lemmas.List.{reverse-append, reverse-reverse, length-reverse, get_or-reverse}

abbrev pub Has : ℕ → List ℕ → Type 0
Has d [] = ⊥
Has d (x ∷ xs) = (x ≡ d) ⊎ Has d xs

abbrev pub Once : List ℕ → Type 0
Once [] = Unit {0}
Once (x ∷ xs) = (Has x xs → ⊥) × Once xs

pub contains_has : (xs : List ℕ) (d k : ℕ) → k < length xs → get_or xs k d ≡ d → Has d xs
contains_has [] d k l e = absurd (omega (arith, l))
contains_has (x ∷ xs) d zero l e = inl e
contains_has (x ∷ xs) d (suc k) l e = inr (contains_has xs d k (omega (arith, l)) e)

pub has_contains : (xs : List ℕ) (d : ℕ) → Has d xs → Contains xs d
has_contains [] d h = absurd h
has_contains (x ∷ xs) d (inl e) = (zero, omega arith, e)
has_contains (x ∷ xs) d (inr h) = let r = has_contains xs d h in (suc r.0, omega (arith, r.1), r.2)

-- ---- joined, and reversed

has_left : (xs ys : List ℕ) (d : ℕ) → Has d xs → Has d (xs ++ ys)
has_left [] ys d h = absurd h
has_left (x ∷ xs) ys d (inl e) = inl e
has_left (x ∷ xs) ys d (inr h) = inr (has_left xs ys d h)

has_right : (xs ys : List ℕ) (d : ℕ) → Has d ys → Has d (xs ++ ys)
has_right [] ys d h = h
has_right (x ∷ xs) ys d h = inr (has_right xs ys d h)

has_cases : (xs ys : List ℕ) (d : ℕ) → Has d (xs ++ ys) → Has d xs ⊎ Has d ys
has_cases [] ys d h = inr h
has_cases (x ∷ xs) ys d (inl e) = inl (inl e)
has_cases (x ∷ xs) ys d (inr h) = elim (has_cases xs ys d h) [ inl k ↦ inl (inr k) | inr k ↦ inr k ]

pub reverse_cons : (x : ℕ) (xs : List ℕ) → reverse (x ∷ xs) ≡ reverse xs ++ x ∷ []
reverse_cons x xs = reverse-append (x ∷ []) xs

pub reverse_has : (xs : List ℕ) (d : ℕ) → Has d (reverse xs) → Has d xs
reverse_has [] d h = h
reverse_has (x ∷ xs) d h = elim (has_cases (reverse xs) (x ∷ []) d (subst (Has d) (reverse_cons x xs) h)) [
  | inl k ↦ inr (reverse_has xs d k)
  | inr k ↦ elim k [ inl e ↦ inl e | inr n ↦ absurd n ]
]

pub has_reverse : (xs : List ℕ) (d : ℕ) → Has d xs → Has d (reverse xs)
has_reverse xs d h = reverse_has (reverse xs) d (subst (Has d) (sym (reverse-reverse xs)) h)

-- ---- once

at_has : (xs : List ℕ) (i x : ℕ) → i < length xs → x ≡ get_or xs i 0 → Has x xs
at_has [] i x l e = absurd (omega (arith, l))
at_has (y ∷ xs) zero x l e = inl (sym e)
at_has (y ∷ xs) (suc i) x l e = inr (at_has xs i x (omega (arith, l)) e)

pub once_apart : (xs : List ℕ) → Once xs → (i j : ℕ) → i < length xs → j < length xs → get_or xs i 0 ≡ get_or xs j 0 → i ≡ j
once_apart [] o i j l k e = absurd (omega (arith, l))
once_apart (x ∷ xs) o zero zero l k e = refl
once_apart (x ∷ xs) o zero (suc j) l k e = absurd (o.0 (at_has xs j x (omega (arith, k)) e))
once_apart (x ∷ xs) o (suc i) zero l k e = absurd (o.0 (at_has xs i x (omega (arith, l)) (sym e)))
once_apart (x ∷ xs) o (suc i) (suc j) l k e = ap suc (once_apart xs o.1 i j (omega (arith, l)) (omega (arith, k)) e)

mirrored : (xs : List ℕ) (i j : ℕ) → i < length xs → j + suc i ≡ length xs → get_or (reverse xs) j 0 ≡ get_or xs i 0
mirrored xs i j l e =
    let back : length xs - 1 - j ≡ i = omega (arith, e) in
    get_or-reverse xs j 0 (omega (arith, e)) ∙ ap (λ k. get_or xs k 0) back

pub apart_reversed : (xs : List ℕ) → Once (reverse xs) → (i j : ℕ) → i < length xs → j < length xs → get_or xs i 0 ≡ get_or xs j 0 → i ≡ j
apart_reversed xs o i j l k e =
    let n = length-reverse xs in
    let p = length xs - suc i in
    let q = length xs - suc j in
    let i_at = mirrored xs i p l (omega (arith, l)) in
    let j_at = mirrored xs j q k (omega (arith, k)) in
    let same : p ≡ q = once_apart (reverse xs) o p q (omega (arith, l, n)) (omega (arith, k, n)) (i_at ∙ e ∙ sym j_at) in
    omega (arith, same, l, k)
