-- Products of integers: the laws that linear arithmetic lacks.
use Rattle.std.proofs.Common.{ℕ, zero, suc, ◌+◌, ◌*◌, ◌<◌, ◌≤◌, ◌≡◌, refl, sym, ap, ap₂, ◌∙◌, arith}
use Rattle.std.proofs.Math.Nat.{mul-le-mul_left}
use Rattle.std.proofs.lemmas.Int.{ints, by_lt_z}
use borrow.Author.Differences.{up, down, neg_is}
use lib.IntN.{ℤ, pos, negsuc, neg_ℤ, ◌+ℤ◌, ◌*ℤ◌, *ℤ_comm}
use lib.Signed.{◌≤ℤ◌, ◌<ℤ◌}

sum_parts : (a b : ℤ) → up (a +ℤ b) + (down a + down b) ≡ down (a +ℤ b) + (up a + up b)
sum_parts a b = omega (arith, ints)

product_parts : (a b : ℤ) → up (a *ℤ b) + (up a * down b + down a * up b) ≡ down (a *ℤ b) + (up a * up b + down a * down b)
product_parts a b = omega (arith, ints)

-- a product with a sum
pub spread : (k a b : ℤ) → k *ℤ a +ℤ k *ℤ b ≡ k *ℤ (a +ℤ b)
spread k a b =
    let e = ap (λ z. up k * z) (sum_parts a b) in
    let f = ap (λ z. down k * z) (sum_parts a b) in
    omega (arith, ints, e, f)

pub spread_left : (k f a : ℤ) → (k +ℤ f) *ℤ a ≡ k *ℤ a +ℤ f *ℤ a
spread_left k f a = *ℤ_comm (k +ℤ f) a ∙ (sym (spread a k f) ∙ ap₂ (λ x y. x +ℤ y) (*ℤ_comm a k) (*ℤ_comm a f))

-- a product of three
pub regrouped : (k f a : ℤ) → (k *ℤ f) *ℤ a ≡ k *ℤ (f *ℤ a)
regrouped k f a =
    let e = ap (λ z. z * up a) (product_parts k f) in
    let g = ap (λ z. z * down a) (product_parts k f) in
    let h = ap (λ z. up k * z) (product_parts f a) in
    let i = ap (λ z. down k * z) (product_parts f a) in
    omega (arith, ints, e, g, h, i)

-- the first of three factors goes behind the second
pub exchanged : (a b c : ℤ) → a *ℤ (b *ℤ c) ≡ b *ℤ (a *ℤ c)
exchanged a b c = sym (regrouped a b c) ∙ (ap (λ z. z *ℤ c) (*ℤ_comm a b) ∙ regrouped b a c)

pub negated_left : (a b : ℤ) → neg_ℤ a *ℤ b ≡ neg_ℤ (a *ℤ b)
negated_left a b =
    let e = ap (λ z. z * up b) (neg_is a).0 in
    let f = ap (λ z. z * down b) (neg_is a).0 in
    let g = ap (λ z. z * up b) (neg_is a).1 in
    let h = ap (λ z. z * down b) (neg_is a).1 in
    omega (arith, ints, e, f, g, h)

pub negated_right : (a b : ℤ) → a *ℤ neg_ℤ b ≡ neg_ℤ (a *ℤ b)
negated_right a b = *ℤ_comm a (neg_ℤ b) ∙ (negated_left b a ∙ ap neg_ℤ (*ℤ_comm b a))

-- a factor that is not below 0 keeps the order, and one above 0 can be left out
pub multiplied : (d : ℕ) (a b : ℤ) → a ≤ℤ b → ((pos d *ℤ a) ≤ℤ (pos d *ℤ b))
multiplied d a b h =
    let k : up a + down b ≤ up b + down a = omega (arith, ints) in
    let m = mul-le-mul_left d k in
    omega (arith, ints, m)

pub cancelled : (d : ℕ) (a b : ℤ) → 0 < d → ((pos d *ℤ a) ≤ℤ (pos d *ℤ b)) → a ≤ℤ b
cancelled d a b p h =
    by_lt_z b a
    (λ lt. absurd (
    let k : suc (up b + down a) ≤ up a + down b = omega (arith, ints) in
    let m = mul-le-mul_left d k in
    omega (arith, ints, m)))
    (λ le. le)

pub same_cancelled : (d : ℕ) (a b : ℤ) → 0 < d → pos d *ℤ a ≡ pos d *ℤ b → a ≡ b
same_cancelled d a b p e = both (cancelled d a b p (from e)) (cancelled d b a p (from (sym e)))
  where
    from : {x y : ℤ} → x ≡ y → x ≤ℤ y
    from {x} {y} e = omega (arith, ints)

    both : {x y : ℤ} → x ≤ℤ y → y ≤ℤ x → x ≡ y
    both {x} {y} h k = omega (arith, ints)

pub product_positive : (a b : ℤ) → pos 0 <ℤ a → pos 0 <ℤ b → pos 0 <ℤ (a *ℤ b)
product_positive (pos zero) b h k = absurd (omega (arith, ints))
product_positive (negsuc n) b h k = absurd (omega (arith, ints))
product_positive (pos (suc m)) (pos zero) h k = absurd (omega (arith, ints))
product_positive (pos (suc m)) (negsuc n) h k = absurd (omega (arith, ints))
product_positive (pos (suc m)) (pos (suc n)) h k = omega (arith, ints)

pub positive_is : (b : ℤ) → pos 0 <ℤ b → (n : ℕ) × (0 < n) × (b ≡ pos n)
positive_is (pos n) h = (n, omega (arith, ints), refl)
positive_is (negsuc n) h = absurd (omega (arith, ints))
