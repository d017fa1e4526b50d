-- Two numbers over their greatest common divisor are the least in their proportion, by Euclid's algorithm.
use Rattle.std.proofs.Common.{ℕ, zero, suc, ◌+◌, ◌-◌, ◌*◌, ◌/◌, ◌%◌, ◌<◌, ◌≤◌, ◌≡◌, ◌⊎◌, inl, inr, refl, sym, ap, ◌∙◌, subst, arith}
use Rattle.std.proofs.Math.Nat.{mul-le-mul_left, mul-le-mul_right, mod-lt, div-add-mod'}
use Rattle.std.proofs.lemmas.Nat.Gcd.{IsGcd-from_mod, IsGcd-from_zero, same_from_IsGcd}
use Rattle.std.specs.Int.{IsGcd}

-- p·u = t·q with a positive q reaches u by g times q
abbrev Reaches : ℕ → ℕ → ℕ → Type 0
Reaches t u g = (p q : ℕ) → p * u ≡ t * q → 0 < q → u ≤ g * q

itself : (u q : ℕ) → 0 < q → u ≤ u * q
itself u zero h = absurd (omega (arith, h))
itself u (suc q) h = omega arith

pub left_out : (r x y : ℕ) → 0 < r → r * x ≤ r * y → x ≤ y
left_out r x y h l = by_order x y (λ k. k) (λ k. absurd (let m = mul-le-mul_left r k in omega (arith, m, l, h)))
  where
    by_order : {P : Type 0} (x y : ℕ) → (x ≤ y → P) → (suc y ≤ x → P) → P
    by_order x y f g = elim (cases x y) [ inl a ↦ f a | inr b ↦ g b ]
      where
        cases : (x y : ℕ) → (x ≤ y) ⊎ (suc y ≤ x)
        cases zero y = inl (omega arith)
        cases (suc x) zero = inr (omega arith)
        cases (suc x) (suc y) = elim (cases x y) [ inl a ↦ inl (omega (arith, a)) | inr b ↦ inr (omega (arith, b)) ]

-- the rest s of p over k·q
module _ (t u k r p q s : ℕ) (pu : 0 < u) (pr : 0 < r) (pq : 0 < q) (t_is : t ≡ k * u + r) (p_is : p ≡ k * q + s) (e : p * u ≡ t * q) where
  rest : s * u ≡ r * q
  rest = let f : (k * q + s) * u ≡ (k * u + r) * q = sym (ap (λ z. z * u) p_is) ∙ (e ∙ ap (λ z. z * q) t_is) in omega (arith, f)

  rest_positive : 0 < s
  rest_positive = above s rest
    where
      above : (s : ℕ) → s * u ≡ r * q → 0 < s
      above zero f = absurd (let m = mul-le-mul_left r pq in omega (arith, f, m, pr))
      above (suc s) f = omega arith

  reached : (g : ℕ) → r ≤ g * s → u ≤ g * q
  reached g l =
      let m = mul-le-mul_right u l in
      let n = ap (λ z. g * z) rest in
      left_out r u (g * q) pr (omega (arith, m, n))

below_or : (k q p u t r : ℕ) → 0 < u → t ≡ k * u + r → p * u ≡ t * q → k * q ≤ p
below_or k q p u t r pu t_is e =
    left_out u (k * q) p pu (let f = ap (λ z. z * q) t_is in omega (arith, e, f))

euclid : (n t u : ℕ) → u ≤ n → 0 < u → (g : ℕ) × IsGcd t u g × Reaches t u g
euclid zero t u l p = absurd (omega (arith, l, p))
euclid (suc n) t u l p = by_rest (λ v h k. euclid n u v h k) (t % u) refl
  where
    t_is : t ≡ (t / u) * u + t % u
    t_is = sym (div-add-mod' t u)

    by_rest : ((v : ℕ) → v ≤ n → 0 < v → (g : ℕ) × IsGcd u v g × Reaches u v g) → (r : ℕ) → t % u ≡ r → (g : ℕ) × IsGcd t u g × Reaches t u g
    by_rest lesser zero e = (u, IsGcd-from_mod t u u (IsGcd-from_zero u (t % u) e), λ a q f h. itself u q h)
    by_rest lesser (suc r) e =
        let d = lesser (suc r) (let m = mod-lt t p in omega (arith, e, m, l)) (omega arith) in
        let i : t ≡ (t / u) * u + suc r = t_is ∙ ap (λ z. (t / u) * u + z) e in (
          d.0,
          IsGcd-from_mod t u d.0 (subst (λ z. IsGcd u z d.0) (sym e) d.1),
          λ a q f h.
              let b = below_or (t / u) q a u t (suc r) p i f in
              let s : a ≡ (t / u) * q + (a - (t / u) * q) = omega (arith, b) in
              let o = rest t u (t / u) (suc r) a q (a - (t / u) * q) p (omega arith) h i s f in
              reached t u (t / u) (suc r) a q (a - (t / u) * q) p (omega arith) h i s f d.0
              (d.2 q (a - (t / u) * q) (omega (arith, o)) (rest_positive t u (t / u) (suc r) a q (a - (t / u) * q) p (omega arith) h i s f)),
        )

pub reaches : (t u g : ℕ) → 0 < u → IsGcd t u g → Reaches t u g
reaches t u g p h =
    let d = euclid u t u (omega arith) p in
    subst (Reaches t u) (same_from_IsGcd t u d.0 g d.1 h) d.2
