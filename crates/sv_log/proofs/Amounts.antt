-- The amount of a row that was made of others.
use Rattle.std.proofs.Common.{ℕ, ◌+◌, ◌*◌, Bool, true, false, cond, nat_eq, nat_lt, List, [], ◌∷◌, ◌≡◌, refl, sym, ap, ap₂, ◌∙◌, arith}
use Rattle.std.proofs.lemmas.Int.{ints}
use Rattle.std.proofs.lemmas.Bool.Decides.{Decides-eqb}
use lib.IntN.{ℤ, pos, negsuc, ◌+ℤ◌, ◌*ℤ◌, *ℤ_comm}
use borrow.Author.Differences.{up, down}
use Rattle.sv_log.specs.LogEntries.{Monomial, Row}
use Rattle.sv_log.specs.LogRows.{monomial, total, amount, is_zero, with_part, with_parts, sum_of, times_parts, times}

pub zero_is : (k : ℤ) → is_zero k ≡ true → k ≡ pos 0
zero_is (pos n) e = ap pos ((Decides-eqb n 0).0 e)
zero_is (negsuc n) e = cc e

none_of : (k a t : ℤ) → k ≡ pos 0 → t ≡ k *ℤ a +ℤ t
none_of k a t e = let z = ap (λ j. j *ℤ a) e in omega (arith, ints, z)

swapped : (x y t : ℤ) → x +ℤ (y +ℤ t) ≡ y +ℤ (x +ℤ t)
swapped x y t = omega (arith, ints)

shifted : (x y t : ℤ) → x +ℤ (y +ℤ t) ≡ (x +ℤ y) +ℤ t
shifted x y t = omega (arith, ints)

crossed : (x y s t : ℤ) → (x +ℤ y) +ℤ (s +ℤ t) ≡ (x +ℤ s) +ℤ (y +ℤ t)
crossed x y s t = omega (arith, ints)

sum_parts : (a b : ℤ) → up (a +ℤ b) + (down a + down b) ≡ down (a +ℤ b) + (up a + up b)
sum_parts a b = omega (arith, ints)

product_parts : (a b : ℤ) → up (a *ℤ b) + (up a * down b + down a * up b) ≡ down (a *ℤ b) + (up a * up b + down a * down b)
product_parts a b = omega (arith, ints)

pub spread : (k a b : ℤ) → k *ℤ a +ℤ k *ℤ b ≡ k *ℤ (a +ℤ b)
spread k a b =
    let e = ap (λ z. up k * z) (sum_parts a b) in
    let f = ap (λ z. down k * z) (sum_parts a b) in
    omega (arith, ints, e, f)

pub regrouped : (k f a : ℤ) → (k *ℤ f) *ℤ a ≡ k *ℤ (f *ℤ a)
regrouped k f a =
    let e = ap (λ z. z * up a) (product_parts k f) in
    let g = ap (λ z. z * down a) (product_parts k f) in
    let h = ap (λ z. up k * z) (product_parts f a) in
    let i = ap (λ z. down k * z) (product_parts f a) in
    omega (arith, ints, e, g, h, i)

pub spread_left : (k f a : ℤ) → (k +ℤ f) *ℤ a ≡ k *ℤ a +ℤ f *ℤ a
spread_left k f a = *ℤ_comm (k +ℤ f) a ∙ (sym (spread a k f) ∙ ap₂ (λ x y. x +ℤ y) (*ℤ_comm a k) (*ℤ_comm a f))

shared : (k f a t : ℤ) → (k *ℤ f) *ℤ a +ℤ k *ℤ t ≡ k *ℤ (f *ℤ a +ℤ t)
shared k f a t = ap (λ z. z +ℤ k *ℤ t) (regrouped k f a) ∙ spread k (f *ℤ a) t

joined : (k f a b t : ℤ) → a ≡ b → (k +ℤ f) *ℤ a +ℤ t ≡ k *ℤ a +ℤ (f *ℤ b +ℤ t)
joined k f a b t e = ap (λ z. z +ℤ t) (spread_left k f a) ∙ (sym (shifted (k *ℤ a) (f *ℤ a) t) ∙ ap (λ z. k *ℤ a +ℤ (f *ℤ z +ℤ t)) e)

empty_left : (t : ℤ) → t ≡ pos 0 +ℤ t
empty_left t = omega (arith, ints)

by_zero : (k : ℤ) → pos 0 ≡ k *ℤ pos 0
by_zero k = omega (arith, ints)

module _ (at : ℕ → ℤ) where
  dropped : (k : ℤ) (x : ℕ) (ps : List Monomial) (b : Bool) → is_zero k ≡ b → total at (cond b ps (monomial k x ∷ ps)) ≡ k *ℤ at x +ℤ total at ps
  dropped k x ps true e = none_of k (at x) (total at ps) (zero_is k e)
  dropped k x ps false e = refl

  less : (k : ℤ) (x : ℕ) (p : Monomial) (ps : List Monomial) (b : Bool) → total at (with_part k x ps) ≡ k *ℤ at x +ℤ total at ps → total at (cond b (cond (is_zero k) (p ∷ ps) (monomial k x ∷ p ∷ ps)) (p ∷ with_part k x ps)) ≡ k *ℤ at x +ℤ total at (p ∷ ps)
  less k x p ps true h = dropped k x (p ∷ ps) (is_zero k) refl
  less k x p ps false h = ap (λ z. p.factor *ℤ at p.column +ℤ z) h ∙ swapped (p.factor *ℤ at p.column) (k *ℤ at x) (total at ps)

  here : (k : ℤ) (x : ℕ) (p : Monomial) (ps : List Monomial) (b : Bool) → nat_eq x p.column ≡ b → total at (with_part k x ps) ≡ k *ℤ at x +ℤ total at ps → total at (cond b (cond (is_zero (k +ℤ p.factor)) ps (monomial (k +ℤ p.factor) x ∷ ps)) (cond (nat_lt x p.column) (cond (is_zero k) (p ∷ ps) (monomial k x ∷ p ∷ ps)) (p ∷ with_part k x ps))) ≡ k *ℤ at x +ℤ total at (p ∷ ps)
  here k x p ps true e h = dropped (k +ℤ p.factor) x ps (is_zero (k +ℤ p.factor)) refl ∙ joined k p.factor (at x) (at p.column) (total at ps) (ap at ((Decides-eqb x p.column).0 e))
  here k x p ps false e h = less k x p ps (nat_lt x p.column) h

  pub with_part_total : (k : ℤ) (x : ℕ) (ps : List Monomial) → total at (with_part k x ps) ≡ k *ℤ at x +ℤ total at ps
  with_part_total k x [] = dropped k x [] (is_zero k) refl
  with_part_total k x (p ∷ ps) = here k x p ps (nat_eq x p.column) refl (with_part_total k x ps)

  pub with_parts_total : (ps qs : List Monomial) → total at (with_parts ps qs) ≡ total at ps +ℤ total at qs
  with_parts_total [] qs = empty_left (total at qs)
  with_parts_total (p ∷ ps) qs = with_part_total p.factor p.column (with_parts ps qs) ∙ (ap (λ z. p.factor *ℤ at p.column +ℤ z) (with_parts_total ps qs) ∙ shifted (p.factor *ℤ at p.column) (total at ps) (total at qs))

  pub sum_amount : (r s : Row) → amount at (sum_of r s) ≡ amount at r +ℤ amount at s
  sum_amount r s = ap (λ z. (r.constant +ℤ s.constant) +ℤ z) (with_parts_total r.parts s.parts) ∙ crossed r.constant s.constant (total at r.parts) (total at s.parts)

  pub times_total : (k : ℤ) (ps : List Monomial) → total at (times_parts k ps) ≡ k *ℤ total at ps
  times_total k [] = by_zero k
  times_total k (p ∷ ps) = ap (λ z. (k *ℤ p.factor) *ℤ at p.column +ℤ z) (times_total k ps) ∙ shared k p.factor (at p.column) (total at ps)

  pub times_amount : (k : ℤ) (r : Row) → amount at (times k r) ≡ k *ℤ amount at r
  times_amount k r = ap (λ z. k *ℤ r.constant +ℤ z) (times_total k r.parts) ∙ spread k r.constant (total at r.parts)
