-- Two fractions by their quotients and by what is left over.
use Rattle.std.proofs.Common.{Ordering, ℕ, ◌+◌, ◌*◌, ◌/◌, ◌%◌, ◌<◌, ◌≡◌, refl, sym, ap, ap₂, ◌∙◌, subst, arith}
use Rattle.std.specs.Ordering.{MatchOrdering}
use Rattle.std.specs.declared.cmp.Ordering.TheVariants.{Less, Equal, Greater}
use Rattle.std.proofs.Math.Nat.{mul-le-mul, mul-le-mul_right, mul-lt-mul_of_pos_right, div-add-mod', mod-lt, mul_comm}
use Rattle.std.proofs.lemmas.Int.{ints, by_lt_z}
use Rattle.std.specs.Int.{int_div_euclid, int_rem_euclid}
use Rattle.std.specs.Prelude.{unsigned_abs}
use lib.IntN.{ℤ, pos, negsuc, ◌+ℤ◌, ◌*ℤ◌, *ℤ_comm}
use lib.Signed.{◌≤ℤ◌, ◌<ℤ◌}
use Rattle.sv_fraction.specs.Fractions.{Ratio, IsLess, IsSame}
use Rattle.sv_fraction.proofs.Integers.{spread, spread_left, regrouped, multiplied, positive_is}

pub mapped : {A B C A' B' C' : Type 0} (o : Ordering) → (A → A') → (B → B') → (C → C') → MatchOrdering o A B C → MatchOrdering o A' B' C'
mapped Less f g h x = f x
mapped Equal f g h x = g x
mapped Greater f g h x = h x

-- ---- natural numbers

-- p below q, with r left over
quotients : (p b r q d s : ℕ) → r < b → 0 < d → p < q → (p * b + r) * d < (q * d + s) * b
quotients p b r q d s h k l =
    let one = mul-le-mul_right (b * d) l in
    let two = mul-le-mul_right d h in
    omega (arith, one, two, k)

-- equal quotients: what is left over decides
left_over : (p b r d s : ℕ) → r * d < s * b → (p * b + r) * d < (p * d + s) * b
left_over p b r d s h = omega (arith, h)

left_same : (p b r d s : ℕ) → r * d ≡ s * b → (p * b + r) * d ≡ (p * d + s) * b
left_same p b r d s h = omega (arith, h)

module _ (a b c d : ℕ) (h : 0 < b) (k : 0 < d) where
  both : (R : ℕ → ℕ → Type 0) → R (((a / b) * b + a % b) * d) (((c / d) * d + c % d) * b) → R (a * d) (c * b)
  both R x = subst (λ y. R (y * d) (c * b)) (div-add-mod' a b) (subst (λ y. R (((a / b) * b + a % b) * d) (y * b)) (div-add-mod' c d) x)

  pub less : a / b < c / d → a * d < c * b
  less l = both (λ x y. x < y) (quotients (a / b) b (a % b) (c / d) d (c % d) (mod-lt a h) k l)

  pub rest_less : a / b ≡ c / d → (a % b) * d < (c % d) * b → a * d < c * b
  rest_less e l = both (λ x y. x < y) (subst (λ q. ((a / b) * b + a % b) * d < (q * d + c % d) * b) e (left_over (a / b) b (a % b) d (c % d) l))

  pub rest_same : a / b ≡ c / d → (a % b) * d ≡ (c % d) * b → a * d ≡ c * b
  rest_same e l = both (λ x y. x ≡ y) (subst (λ q. ((a / b) * b + a % b) * d ≡ (q * d + c % d) * b) e (left_same (a / b) b (a % b) d (c % d) l))

-- nothing left over on one side
pub none_left : (r d s b : ℕ) → r ≡ 0 → 0 < s → 0 < b → r * d < s * b
none_left r d s b e l h = let m = mul-le-mul l h in let z = ap (λ x. x * d) e in omega (arith, m, z)

pub none_both : (r d s b : ℕ) → r ≡ 0 → s ≡ 0 → r * d ≡ s * b
none_both r d s b e f = let y = ap (λ x. x * d) e in let z = ap (λ x. x * b) f in omega (arith, y, z)

pub turned : (a b c d : ℕ) (h : 0 < b) (k : 0 < d) (e : a / b ≡ c / d) (o : Ordering)
    → MatchOrdering o (d * (a % b) < b * (c % d)) (d * (a % b) ≡ b * (c % d)) (b * (c % d) < d * (a % b))
    → MatchOrdering o (a * d < c * b) (a * d ≡ c * b) (c * b < a * d)
turned a b c d h k e o x =
    mapped o
    (λ l. rest_less a b c d h k e (omega (arith, l)))
    (λ l. rest_same a b c d h k e (omega (arith, l)))
    (λ l. rest_less c d a b k h (sym e) (omega (arith, l)))
    x

-- ---- integers over natural numbers

parted : (a : ℤ) (b : ℕ) → 0 < b → a ≡ int_div_euclid a (pos b) *ℤ pos b +ℤ int_rem_euclid a (pos b)
parted (pos a) b h = omega (arith, ints)
parted (negsuc a) b h = omega (arith, ints)

-- (p·b + r)·d
expanded : (p : ℤ) (b r d : ℕ) → (p *ℤ pos b +ℤ pos r) *ℤ pos d ≡ pos (b * d) *ℤ p +ℤ pos (r * d)
expanded p b r d = spread_left (p *ℤ pos b) (pos r) (pos d) ∙ ap (λ z. z +ℤ pos (r * d)) (regrouped p (pos b) (pos d) ∙ moved p (b * d))
  where
    moved : (p : ℤ) (n : ℕ) → p *ℤ pos n ≡ pos n *ℤ p
    moved p n = *ℤ_comm p (pos n)

module _ (a c : ℤ) (b d r s : ℕ) (h : 0 < b) (k : 0 < d) (e : int_rem_euclid a (pos b) ≡ pos r) (f : int_rem_euclid c (pos d) ≡ pos s) where
  abbrev p : ℤ
  p = int_div_euclid a (pos b)

  abbrev q : ℤ
  q = int_div_euclid c (pos d)

  first : pos (b * d) *ℤ p +ℤ pos (r * d) ≡ a *ℤ pos d
  first = sym (expanded p b r d) ∙ ap (λ z. z *ℤ pos d) (ap (λ z. p *ℤ pos b +ℤ z) (sym e) ∙ sym (parted a b h))

  second : pos (b * d) *ℤ q +ℤ pos (s * b) ≡ c *ℤ pos b
  second = ap (λ n. pos n *ℤ q +ℤ pos (s * b)) (mul_comm b d) ∙ (sym (expanded q d s b) ∙ ap (λ z. z *ℤ pos b) (ap (λ z. q *ℤ pos d +ℤ z) (sym f) ∙ sym (parted c d k)))

  through : (R : ℤ → ℤ → Type 0) → R (pos (b * d) *ℤ p +ℤ pos (r * d)) (pos (b * d) *ℤ q +ℤ pos (s * b)) → R (a *ℤ pos d) (c *ℤ pos b)
  through R x = subst (λ y. R y (c *ℤ pos b)) first (subst (λ y. R (pos (b * d) *ℤ p +ℤ pos (r * d)) y) second x)

  pub quotient_less : r < b → p <ℤ q → (a *ℤ pos d) <ℤ (c *ℤ pos b)
  quotient_less l m = through (λ x y. x <ℤ y) (apart (pos (b * d) *ℤ p) (pos (b * d) *ℤ q) (b * d) (r * d) (s * b) (mul-lt-mul_of_pos_right l k) more)
    where
      more : (pos (b * d) *ℤ p +ℤ pos (b * d)) ≤ℤ (pos (b * d) *ℤ q)
      more = subst (λ z. z ≤ℤ (pos (b * d) *ℤ q)) (sym (spread (pos (b * d)) p (pos 1)) ∙ ap (λ z. pos (b * d) *ℤ p +ℤ z) unit) (multiplied (b * d) (p +ℤ pos 1) q (next p q m))
        where
          unit : pos (b * d) *ℤ pos 1 ≡ pos (b * d)
          unit = omega (arith, ints)

          next : (p q : ℤ) → p <ℤ q → (p +ℤ pos 1) ≤ℤ q
          next p q m = omega (arith, ints)

      apart : (x y : ℤ) (n i j : ℕ) → i < n → (x +ℤ pos n) ≤ℤ y → (x +ℤ pos i) <ℤ (y +ℤ pos j)
      apart x y n i j l h = omega (arith, ints)

  pub rests : p ≡ q → (o : Ordering) → MatchOrdering o (r * d < s * b) (r * d ≡ s * b) (s * b < r * d)
      → MatchOrdering o ((a *ℤ pos d) <ℤ (c *ℤ pos b)) (a *ℤ pos d ≡ c *ℤ pos b) ((c *ℤ pos b) <ℤ (a *ℤ pos d))
  rests same o x =
      mapped o
      (λ l. through (λ x y. x <ℤ y) (lesser (pos (b * d) *ℤ p) (pos (b * d) *ℤ q) (r * d) (s * b) level l))
      (λ l. through (λ x y. x ≡ y) (ap₂ (λ x n. x +ℤ pos n) level l))
      (λ l. through (λ x y. y <ℤ x) (lesser (pos (b * d) *ℤ q) (pos (b * d) *ℤ p) (s * b) (r * d) (sym level) l))
      x
    where
      level : pos (b * d) *ℤ p ≡ pos (b * d) *ℤ q
      level = ap (λ z. pos (b * d) *ℤ z) same

      lesser : (x y : ℤ) (i j : ℕ) → x ≡ y → i < j → (x +ℤ pos i) <ℤ (y +ℤ pos j)
      lesser x y i j e l = omega (arith, ints)

rest_is : (a : ℤ) (d : ℤ) → int_rem_euclid a d ≡ pos (unsigned_abs (int_rem_euclid a d))
rest_is (pos a) d = refl
rest_is (negsuc a) d = refl

rest_below : (a : ℤ) (b : ℕ) → 0 < b → unsigned_abs (int_rem_euclid a (pos b)) < b
rest_below (pos a) b h = mod-lt a h
rest_below (negsuc a) b h = omega (arith, h)

pub by_quotients : (f g : Ratio) (x y : ℤ) → pos 0 <ℤ f.under → pos 0 <ℤ g.under → x ≡ int_div_euclid f.top f.under → y ≡ int_div_euclid g.top g.under → x <ℤ y → IsLess f g
by_quotients f g x y h k e i l =
    let b = positive_is f.under h in
    let d = positive_is g.under k in
    subst (λ z. (f.top *ℤ g.under) <ℤ (g.top *ℤ z)) (sym b.2) (subst (λ z. (f.top *ℤ z) <ℤ (g.top *ℤ pos b.0)) (sym d.2)
    (quotient_less f.top g.top b.0 d.0 (unsigned_abs (int_rem_euclid f.top (pos b.0))) (unsigned_abs (int_rem_euclid g.top (pos d.0))) b.1 d.1 (rest_is f.top (pos b.0)) (rest_is g.top (pos d.0))
    (rest_below f.top b.0 b.1)
    (subst (λ z. int_div_euclid f.top z <ℤ int_div_euclid g.top (pos d.0)) b.2 (subst (λ z. int_div_euclid f.top f.under <ℤ int_div_euclid g.top z) d.2 (subst (λ z. z <ℤ int_div_euclid g.top g.under) e (subst (λ z. x <ℤ z) i l))))))

pub by_rests : (f g : Ratio) (x y : ℤ) (r s b d : ℕ) → pos 0 <ℤ f.under → pos 0 <ℤ g.under → x ≡ int_div_euclid f.top f.under → y ≡ int_div_euclid g.top g.under → x ≡ y
    → pos r ≡ int_rem_euclid f.top f.under → pos s ≡ int_rem_euclid g.top g.under → pos b ≡ f.under → pos d ≡ g.under
    → (o : Ordering) → MatchOrdering o (r * d < s * b) (r * d ≡ s * b) (s * b < r * d) → MatchOrdering o (IsLess f g) (IsSame f g) (IsLess g f)
by_rests f g x y r s b d h k e i same m n u v o w =
    subst (λ z. MatchOrdering o ((f.top *ℤ g.under) <ℤ (g.top *ℤ z)) (f.top *ℤ g.under ≡ g.top *ℤ z) ((g.top *ℤ z) <ℤ (f.top *ℤ g.under))) u
    (subst (λ z. MatchOrdering o ((f.top *ℤ z) <ℤ (g.top *ℤ pos b)) (f.top *ℤ z ≡ g.top *ℤ pos b) ((g.top *ℤ pos b) <ℤ (f.top *ℤ z))) v
    (rests f.top g.top b d r s (from b f.under u h) (from d g.under v k)
    (ap (λ z. int_rem_euclid f.top z) u ∙ sym m) (ap (λ z. int_rem_euclid g.top z) v ∙ sym n)
    (ap (λ z. int_div_euclid f.top z) u ∙ (sym e ∙ (same ∙ (i ∙ sym (ap (λ z. int_div_euclid g.top z) v))))) o w))
  where
    from : (b : ℕ) (z : ℤ) → pos b ≡ z → pos 0 <ℤ z → 0 < b
    from b z e h = let i = subst (λ z. pos 0 <ℤ z) (sym e) h in omega (arith, ints, i)

-- a number that is not below 0, cast to the unsigned type
pub cast_is : (z : ℤ) → pos 0 ≤ℤ z → pos (unsigned_abs z) ≡ z
cast_is (pos n) h = refl
cast_is (negsuc n) h = absurd (omega (arith, ints))

pub rest_cast : (r a d : ℤ) → r ≡ int_rem_euclid a d → pos (unsigned_abs r) ≡ int_rem_euclid a d
rest_cast r a d e = ap (λ z. pos (unsigned_abs z)) e ∙ cast_is (int_rem_euclid a d) (above a)
  where
    above : (a : ℤ) → pos 0 ≤ℤ int_rem_euclid a d
    above (pos a) = omega (arith, ints)
    above (negsuc a) = omega (arith, ints)

pub at_least : (z : ℤ) → pos 0 <ℤ z → pos 0 ≤ℤ z
at_least z h = omega (arith, ints)

pub level : (x y : ℤ) → (x <ℤ y → ⊥) → (y <ℤ x → ⊥) → x ≡ y
level x y h k = by_lt_z x y (λ l. absurd (h l)) (λ l. by_lt_z y x (λ m. absurd (k m)) (λ m. omega (arith, ints)))
