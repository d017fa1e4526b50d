-- The least number of which something is true, over a list.
use Rattle.std.proofs.Common.{ℕ, ◌≡◌, ◌⊎◌, inl, inr, Option, Some, None, List, [], ◌∷◌, min, sym, subst, arith}
use Rattle.std.specs.List.{Contains}
use Rattle.std.proofs.lemmas.List.Elements.{Contains-append_left, Contains-append_right, Contains-append_cases, Contains-push, Contains-push_cases}
use Rattle.std.proofs.lemmas.Bool.{cases_lt}
use Rattle.sv_heirs.specs.Heirs.{IsLeast}
use Rattle.sv_heirs.specs.Sooner.{sooner, least_from}

pub same_least : (P Q : ℕ → Type 0) (r : Option ℕ) → ((p : ℕ) → P p → Q p) → ((p : ℕ) → Q p → P p) → IsLeast P r → IsLeast Q r
same_least P Q None to from h = λ p q. h p (from p q)
same_least P Q (Some n) to from h = (to n h.0, λ p q. h.1 p (from p q))

pub sooner_least : (P Q : ℕ → Type 0) (a b : Option ℕ) → IsLeast P a → IsLeast Q b → IsLeast (λ p. P p ⊎ Q p) (sooner a b)
sooner_least P Q None None h k = λ p o. elim o [ inl x ↦ h p x | inr y ↦ k p y ]
sooner_least P Q None (Some b) h k = (inr k.0, λ p o. elim o [ inl x ↦ absurd (h p x) | inr y ↦ k.1 p y ])
sooner_least P Q (Some a) None h k = (inl h.0, λ p o. elim o [ inl x ↦ h.1 p x | inr y ↦ absurd (k p y) ])
sooner_least P Q (Some a) (Some b) h k = (
  elim (cases_lt a b) [
    | inl l ↦ (let e : a ≡ min a b = omega (arith, l) in inl (subst P e h.0))
    | inr l ↦ (let e : b ≡ min a b = omega (arith, l) in inr (subst Q e k.0))
  ],
  λ p o. elim o [
    | inl x ↦ (let l = h.1 p x in omega (arith, l))
    | inr y ↦ (let l = k.1 p y in omega (arith, l))
  ],
)

-- ---- over a list

at_head : {A : Type 0} (x y : A) → Contains (x ∷ []) y → x ≡ y
at_head x y c = elim (Contains-push_cases [] x y c) [ inl n ↦ absurd (omega (arith, n.1)) | inr e ↦ e ]

pub least_over : {A : Type 0} (f : A → Option ℕ) (F : A → ℕ → Type 0) → ((x : A) → IsLeast (F x) (f x)) → (xs : List A) (P : ℕ → Type 0) (found : Option ℕ) → IsLeast P found
    → IsLeast (λ p. P p ⊎ ((x : A) × Contains xs x × F x p)) (least_from f found xs)
least_over f F each [] P found h = same_least P (λ p. P p ⊎ ((x : _) × Contains [] x × F x p)) found (λ p x. inl x) (λ p o. elim o [ inl x ↦ x | inr y ↦ absurd (omega (arith, y.1.1)) ]) h
least_over {A} f F each (x ∷ xs) P found h =
    same_least (λ p. (P p ⊎ F x p) ⊎ ((y : A) × Contains xs y × F y p)) (λ p. P p ⊎ ((y : A) × Contains (x ∷ xs) y × F y p)) (least_from f (sooner found (f x)) xs)
    (λ p o. elim o [
      | inl k ↦ elim k [ inl m ↦ inl m | inr m ↦ inr (x, Contains-append_left (x ∷ []) xs x (Contains-push [] x), m) ]
      | inr k ↦ inr (k.0, Contains-append_right (x ∷ []) xs k.0 k.1, k.2)
    ])
    (λ p o. elim o [
      | inl k ↦ inl (inl k)
      | inr k ↦ elim (Contains-append_cases (x ∷ []) xs k.0 k.1) [
        | inl m ↦ inl (inr (subst (λ z. F z p) (sym (at_head x k.0 m)) k.2))
        | inr m ↦ inr (k.0, m, k.2)
      ]
    ])
    (least_over f F each xs (λ p. P p ⊎ F x p) (sooner found (f x)) (sooner_least P (F x) found (f x) h (each x)))
