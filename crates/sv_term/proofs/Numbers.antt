-- Ranges, wrapping, division toward zero, signs of products.
use Rattle.std.proofs.Common.{ℕ, zero, suc, ◌+◌, ◌-◌, ◌*◌, ◌/◌, ◌%◌, ◌^◌, ◌<◌, ◌≤◌, Bool, true, false, cond, nat_le, ◌≡◌, refl, sym, ap, ◌∙◌, subst, arith}
use Rattle.std.specs.Ordering.{int_eq}
use Rattle.std.proofs.lemmas.Int.{ints}
use Rattle.std.proofs.lemmas.Bool.Decides.{nat_tests}
use Rattle.std.proofs.lemmas.Nat.{pow_pos}
use Rattle.std.proofs.Math.Nat.{pow-suc, mod-eq_of_lt}
use lib.IntN.{ℤ, pos, negsuc, neg_ℤ, ◌+ℤ◌, ◌-ℤ◌, ◌*ℤ◌}
use borrow.Author.Differences.{up, down}
use lib.Signed.{◌≤ℤ◌, ◌<ℤ◌, le_z}
use Rattle.sv_term.specs.Sorts.{Range, Any, Low, Bits, depth, height, is_in}
use Rattle.sv_term.specs.Values.{quotient, remainder, residue, wrapped}
use Rattle.sv_term.specs.TermLaws.{WrapsModulo}
use Rattle.sv_term.proofs.Same.{both_true, and_true, int_other}

pub le_true : (a b : ℤ) → a ≤ℤ b → le_z a b ≡ true
le_true a b h = go (le_z a b) refl
  where
    go : (c : Bool) → le_z a b ≡ c → c ≡ true
    go true e = refl
    go false e = absurd (omega (arith, ints))

pub le_of : (a b : ℤ) → le_z a b ≡ true → a ≤ℤ b
le_of a b e = omega (arith, ints)

pub lt_of_not : (a b : ℤ) → le_z a b ≡ false → b <ℤ a
lt_of_not a b e = omega (arith, ints)

not_above : (h : ℕ) → le_z (neg_ℤ (pos h)) (pos 0) ≡ true
not_above zero = refl
not_above (suc n) = refl

pub zero_in : (r : Range) → is_in r (pos 0) ≡ true
zero_in Any = refl
zero_in Low = refl
zero_in (Bits g n) = and_true _ _ (not_above (depth g n)) (le_true (pos 0) (pos (height g n)) (omega (arith, ints)))

-- ---- wrapping

residue_below : (m : ℕ) (z : ℤ) → 0 < m → residue m z < m
residue_below m (pos n) h = omega arith
residue_below m (negsuc n) h = omega arith

power_is : (n : ℕ) → 1 ≤ n → 2 ^ n ≡ 2 ^ (n - 1) + 2 ^ (n - 1)
power_is zero h = absurd (omega arith)
power_is (suc n) h =
    let e : suc n - 1 ≡ n = omega arith in
    rw e (let f = pow-suc 2 n in omega (arith, f))

nat_le_true : (a b : ℕ) → a ≤ b → nat_le a b ≡ true
nat_le_true a b h = grind (arith, nat_tests)

nat_le_is : (a b : ℕ) → nat_le a b ≡ true → a ≤ b
nat_le_is a b h = grind (arith, nat_tests)

nat_le_not : (a b : ℕ) → nat_le a b ≡ false → b < a
nat_le_not a b h = grind (arith, nat_tests)

IsBetween : ℕ → ℤ → ℕ → Type 0
IsBetween d z h = ((neg_ℤ (pos d)) ≤ℤ z) × (z ≤ℤ pos h)

in_bits : (g : Bool) (n : ℕ) (z : ℤ) → (neg_ℤ (pos (depth g n))) ≤ℤ z → z ≤ℤ pos (height g n) → is_in (Bits g n) z ≡ true
in_bits g n z a b = and_true _ _ (le_true _ z a) (le_true z _ b)

pub of_bits : (g : Bool) (n : ℕ) (z : ℤ) → is_in (Bits g n) z ≡ true → ((neg_ℤ (pos (depth g n))) ≤ℤ z) × (z ≤ℤ pos (height g n))
of_bits g n z e = let b = both_true _ _ e in (le_of _ z b.0, le_of z _ b.1)

-- the two forms of a wrapped number: r, or r - p
abbrev shifted : ℕ → ℕ → ℕ → ℤ
shifted p h r = cond (nat_le r h) (pos r) (pos r -ℤ pos p)

unsigned_is : (p r : ℕ) → r < p → shifted p (p - 1) r ≡ pos r
unsigned_is p r l = ap (λ b. cond b (pos r) (pos r -ℤ pos p)) (nat_le_true r (p - 1) (omega arith))

signed_in : (p h r : ℕ) → p ≡ h + h → r < p → 0 < h → ((neg_ℤ (pos h)) ≤ℤ shifted p (h - 1) r) × (shifted p (h - 1) r ≤ℤ pos (h - 1))
signed_in p h r e l k = go (nat_le r (h - 1)) refl
  where
    low : (r h : ℕ) → (neg_ℤ (pos h)) ≤ℤ pos r
    low r h = omega (arith, ints)

    high : (r h : ℕ) → r ≤ h → pos r ≤ℤ pos h
    high r h l = omega (arith, ints)

    far : (p h r : ℕ) → p ≡ h + h → h ≤ r → (neg_ℤ (pos h)) ≤ℤ (pos r -ℤ pos p)
    far p h r e l = omega (arith, ints)

    near : (p h r : ℕ) → r < p → (pos r -ℤ pos p) ≤ℤ pos h
    near p h r l = omega (arith, ints)

    go : (b : Bool) → nat_le r (h - 1) ≡ b → ((neg_ℤ (pos h)) ≤ℤ cond b (pos r) (pos r -ℤ pos p)) × (cond b (pos r) (pos r -ℤ pos p) ≤ℤ pos (h - 1))
    go true f = (low r h, high r (h - 1) (nat_le_is r (h - 1) f))
    go false f = (far p h r e (let g = nat_le_not r (h - 1) f in omega arith), near p (h - 1) r l)

pub wrapped_in : (g : Bool) (n : ℕ) (z : ℤ) → 1 ≤ n → is_in (Bits g n) (wrapped g n z) ≡ true
wrapped_in true n z h =
    let b = signed_in (2 ^ n) (2 ^ (n - 1)) (residue (2 ^ n) z) (power_is n h) (residue_below (2 ^ n) z (pow_pos n)) (pow_pos (n - 1)) in
    in_bits true n (wrapped true n z) b.0 b.1
wrapped_in false n z h =
    let e = unsigned_is (2 ^ n) (residue (2 ^ n) z) (residue_below (2 ^ n) z (pow_pos n)) in
    subst (λ y. is_in (Bits false n) y ≡ true) (sym e) (in_bits false n (pos (residue (2 ^ n) z)) (omega (arith, ints)) (under (2 ^ n) (residue (2 ^ n) z) (residue_below (2 ^ n) z (pow_pos n))))
  where
    under : (p r : ℕ) → r < p → pos r ≤ℤ pos (p - 1)
    under p r l = omega (arith, ints)

-- a number in the range is as it was
residue_pos : (p a : ℕ) → a < p → residue p (pos a) ≡ a
residue_pos p a h = mod-eq_of_lt h

residue_neg : (p a : ℕ) → a < p → residue p (negsuc a) ≡ p - 1 - a
residue_neg p a h = ap (λ x. p - 1 - x) (mod-eq_of_lt h)

pub wraps_not : (g : Bool) (n : ℕ) (z : ℤ) → 1 ≤ n → is_in (Bits g n) z ≡ true → wrapped g n z ≡ z
wraps_not false n (pos a) h i =
    let l : a < 2 ^ n = small (2 ^ n) a (pow_pos n) (of_bits false n (pos a) i).1 in
    ap (shifted (2 ^ n) (2 ^ n - 1)) (residue_pos (2 ^ n) a l) ∙ unsigned_is (2 ^ n) a l
  where
    small : (p a : ℕ) → 0 < p → pos a ≤ℤ pos (p - 1) → a < p
    small p a l k = omega (arith, ints)
wraps_not false n (negsuc a) h i = absurd (none a (of_bits false n (negsuc a) i).0)
  where
    none : (a : ℕ) → pos 0 ≤ℤ negsuc a → ⊥
    none a l = omega (arith, ints)
wraps_not true n (pos a) h i =
    let b = (of_bits true n (pos a) i).1 in
    let l : a ≤ 2 ^ (n - 1) - 1 = small (2 ^ (n - 1) - 1) a b in
    let q = pow_pos (n - 1) in
    let m : a < 2 ^ n = less (2 ^ n) (2 ^ (n - 1)) a (power_is n h) q l in
    ap (shifted (2 ^ n) (2 ^ (n - 1) - 1)) (residue_pos (2 ^ n) a m) ∙ ap (λ c. cond c (pos a) (pos a -ℤ pos (2 ^ n))) (nat_le_true a (2 ^ (n - 1) - 1) l)
  where
    small : (p a : ℕ) → pos a ≤ℤ pos p → a ≤ p
    small p a k = omega (arith, ints)

    less : (p h a : ℕ) → p ≡ h + h → 0 < h → a ≤ h - 1 → a < p
    less p h a e k l = omega arith
wraps_not true n (negsuc a) h i =
    let l : a < 2 ^ (n - 1) = small (2 ^ (n - 1)) a (of_bits true n (negsuc a) i).0 in
    let m : a < 2 ^ n = less (2 ^ n) (2 ^ (n - 1)) a (power_is n h) l in
    ap (shifted (2 ^ n) (2 ^ (n - 1) - 1)) (residue_neg (2 ^ n) a m)
    ∙ (ap (λ c. cond c (pos (2 ^ n - 1 - a)) (pos (2 ^ n - 1 - a) -ℤ pos (2 ^ n))) (over (2 ^ n) (2 ^ (n - 1)) a (power_is n h) l)
    ∙ back (2 ^ n) a m)
  where
    small : (p a : ℕ) → (neg_ℤ (pos p)) ≤ℤ negsuc a → a < p
    small p a k = omega (arith, ints)

    less : (p h a : ℕ) → p ≡ h + h → a < h → a < p
    less p h a e l = omega arith

    not_le : (a b : ℕ) → b < a → nat_le a b ≡ false
    not_le a b h = grind (arith, nat_tests)

    over : (p h a : ℕ) → p ≡ h + h → a < h → nat_le (p - 1 - a) (h - 1) ≡ false
    over p h a e l = not_le (p - 1 - a) (h - 1) (omega arith)

    back : (p a : ℕ) → a < p → pos (p - 1 - a) -ℤ pos p ≡ negsuc a
    back p a l = omega (arith, ints)

-- equal modulo 2 ^ n
residue_is : (p : ℕ) (z : ℤ) → 0 < p → (k : ℤ) × (z ≡ pos (residue p z) +ℤ k *ℤ pos p)
residue_is p (pos a) h = (pos (a / p), go p (a / p) (a % p) a (omega arith))
  where
    go : (p q r a : ℕ) → a ≡ p * q + r → pos a ≡ pos r +ℤ pos (q * p)
    go p q r a e = omega (arith, ints)
residue_is p (negsuc a) h = (negsuc (a / p), go p (a / p) (a % p) a (omega arith) (omega arith))
  where
    go : (p q r a : ℕ) → a ≡ p * q + r → r < p → negsuc a ≡ pos (p - 1 - r) +ℤ neg_ℤ (pos (suc q * p))
    go p q r a e l = let f : suc q * p ≡ p * q + p = omega arith in omega (arith, ints, f)

product_parts : (a b : ℤ) → up (a *ℤ b) + (up a * down b + down a * up b) ≡ down (a *ℤ b) + (up a * up b + down a * down b)
product_parts a b = omega (arith, ints)

once_more : (k p : ℤ) → (k +ℤ pos 1) *ℤ p ≡ k *ℤ p +ℤ p
once_more k p =
    let s : up (k +ℤ pos 1) + down k ≡ down (k +ℤ pos 1) + (up k + 1) = omega (arith, ints) in
    let e = ap (λ z. z * up p) s in
    let f = ap (λ z. z * down p) s in
    let g = product_parts (k +ℤ pos 1) p in
    let h = product_parts k p in
    omega (arith, ints, e, f, g, h)

more_once : (r p k : ℤ) → r +ℤ k *ℤ p ≡ (r -ℤ p) +ℤ (k +ℤ pos 1) *ℤ p
more_once r p k = let e = once_more k p in omega (arith, ints, e)

wrap_is : (p h r : ℕ) (z k : ℤ) → z ≡ pos r +ℤ k *ℤ pos p → (j : ℤ) × (z ≡ shifted p h r +ℤ j *ℤ pos p)
wrap_is p h r z k e = go (nat_le r h)
  where
    go : (b : Bool) → (j : ℤ) × (z ≡ cond b (pos r) (pos r -ℤ pos p) +ℤ j *ℤ pos p)
    go true = (k, e)
    go false = (k +ℤ pos 1, e ∙ more_once (pos r) (pos p) k)

pub wraps_modulo : WrapsModulo
wraps_modulo g n z h =
    let r = residue_is (2 ^ n) z (pow_pos n) in
    (wrapped_in g n z h, wrap_is (2 ^ n) (height g n) (residue (2 ^ n) z) z r.0 r.1)

-- ---- division toward zero by a number d of at least 1

nonzero : (d : ℕ) → 1 ≤ d → int_eq (pos d) (pos 0) ≡ false
nonzero d h = int_other (pos d) (pos 0) (λ e. apart d h e)
  where
    apart : (d : ℕ) → 1 ≤ d → pos d ≡ pos 0 → ⊥
    apart d h e = omega (arith, ints)

quotient_pos : (n d : ℕ) → 1 ≤ d → quotient (pos n) (pos d) ≡ pos (n / d)
quotient_pos n d h = ap (λ b. cond b (pos 0) (pos (n / d))) (nonzero d h)

quotient_neg : (n d : ℕ) → 1 ≤ d → quotient (negsuc n) (pos d) ≡ neg_ℤ (pos (suc n / d))
quotient_neg n d h = ap (λ b. cond b (pos 0) (neg_ℤ (pos (suc n / d)))) (nonzero d h)

remainder_pos : (n d : ℕ) → 1 ≤ d → remainder (pos n) (pos d) ≡ pos (n % d)
remainder_pos n d h = ap (λ b. cond b (pos 0) (pos (n % d))) (nonzero d h)

remainder_neg : (n d : ℕ) → 1 ≤ d → remainder (negsuc n) (pos d) ≡ neg_ℤ (pos (suc n % d))
remainder_neg n d h = ap (λ b. cond b (pos 0) (neg_ℤ (pos (suc n % d)))) (nonzero d h)

times_neg : (d q : ℕ) → pos d *ℤ neg_ℤ (pos q) ≡ neg_ℤ (pos (d * q))
times_neg d zero = omega (arith, ints)
times_neg d (suc q) = refl

divided : (n d : ℕ) → 1 ≤ d → (d * (n / d) + n % d ≡ n) × (n % d < d)
divided n d h = (omega arith, omega arith)

pub div_low : (a : ℤ) (d : ℕ) → 1 ≤ d → pos 0 ≤ℤ a → (pos d *ℤ quotient a (pos d)) ≤ℤ a
div_low (pos n) d h l = rw (quotient_pos n d h) (go (d * (n / d)) (n % d) n (divided n d h).0)
  where
    go : (x r n : ℕ) → x + r ≡ n → pos x ≤ℤ pos n
    go x r n e = omega (arith, ints)
div_low (negsuc n) d h l = absurd (omega (arith, ints))

pub div_high : (a : ℤ) (d : ℕ) → 1 ≤ d → pos 0 ≤ℤ a → a ≤ℤ (pos d *ℤ quotient a (pos d) +ℤ pos (d - 1))
div_high (pos n) d h l = rw (quotient_pos n d h) (go (d * (n / d)) (n % d) n d (divided n d h).0 (divided n d h).1)
  where
    go : (x r n d : ℕ) → x + r ≡ n → r < d → pos n ≤ℤ pos (x + (d - 1))
    go x r n d e k = omega (arith, ints)
div_high (negsuc n) d h l = absurd (omega (arith, ints))

pub div_high_neg : (a : ℤ) (d : ℕ) → 1 ≤ d → a <ℤ pos 0 → a ≤ℤ (pos d *ℤ quotient a (pos d))
div_high_neg (pos n) d h l = absurd (omega (arith, ints))
div_high_neg (negsuc n) d h l =
    subst (λ z. negsuc n ≤ℤ z) (sym (ap (λ z. pos d *ℤ z) (quotient_neg n d h) ∙ times_neg d (suc n / d))) (go (d * (suc n / d)) (suc n % d) n (divided (suc n) d h).0)
  where
    go : (x r n : ℕ) → x + r ≡ suc n → negsuc n ≤ℤ neg_ℤ (pos x)
    go x r n e = omega (arith, ints)

pub div_low_neg : (a : ℤ) (d : ℕ) → 1 ≤ d → a <ℤ pos 0 → (pos d *ℤ quotient a (pos d) -ℤ pos (d - 1)) ≤ℤ a
div_low_neg (pos n) d h l = absurd (omega (arith, ints))
div_low_neg (negsuc n) d h l =
    subst (λ z. (z -ℤ pos (d - 1)) ≤ℤ negsuc n) (sym (ap (λ z. pos d *ℤ z) (quotient_neg n d h) ∙ times_neg d (suc n / d))) (go (d * (suc n / d)) (suc n % d) n d (divided (suc n) d h).0 (divided (suc n) d h).1)
  where
    go : (x r n d : ℕ) → x + r ≡ suc n → r < d → ((neg_ℤ (pos x) -ℤ pos (d - 1)) ≤ℤ negsuc n)
    go x r n d e k = omega (arith, ints)

pub rem_is : (a : ℤ) (d : ℕ) → 1 ≤ d → remainder a (pos d) ≡ a -ℤ pos d *ℤ quotient a (pos d)
rem_is (pos n) d h = rw (quotient_pos n d h, remainder_pos n d h) (go (d * (n / d)) (n % d) n (divided n d h).0)
  where
    go : (x r n : ℕ) → x + r ≡ n → pos r ≡ pos n -ℤ pos x
    go x r n e = omega (arith, ints)
rem_is (negsuc n) d h =
    remainder_neg n d h ∙ (go (d * (suc n / d)) (suc n % d) n (divided (suc n) d h).0
    ∙ ap (λ z. negsuc n -ℤ z) (sym (ap (λ z. pos d *ℤ z) (quotient_neg n d h) ∙ times_neg d (suc n / d))))
  where
    go : (x r n : ℕ) → x + r ≡ suc n → neg_ℤ (pos r) ≡ negsuc n -ℤ neg_ℤ (pos x)
    go x r n e = omega (arith, ints)

-- ---- signs of products

pub high_high : (a b : ℤ) → pos 0 ≤ℤ a → pos 0 ≤ℤ b → pos 0 ≤ℤ (a *ℤ b)
high_high (pos m) (pos n) h k = omega (arith, ints)
high_high (pos m) (negsuc n) h k = absurd (omega (arith, ints))
high_high (negsuc m) b h k = absurd (omega (arith, ints))

pub low_low : (a b : ℤ) → a ≤ℤ pos 0 → b ≤ℤ pos 0 → pos 0 ≤ℤ (a *ℤ b)
low_low (pos zero) b h k = rw (zero_times b) (omega (arith, ints))
  where
    zero_times : (b : ℤ) → pos 0 *ℤ b ≡ pos 0
    zero_times b = omega (arith, ints)
low_low (pos (suc m)) b h k = absurd (omega (arith, ints))
low_low (negsuc m) (pos zero) h k = omega (arith, ints)
low_low (negsuc m) (pos (suc n)) h k = absurd (omega (arith, ints))
low_low (negsuc m) (negsuc n) h k = omega (arith, ints)

below_zero : (n : ℕ) → (neg_ℤ (pos n)) ≤ℤ pos 0
below_zero n = omega (arith, ints)

pub high_low : (a b : ℤ) → pos 0 ≤ℤ a → b ≤ℤ pos 0 → (a *ℤ b) ≤ℤ pos 0
high_low (pos m) (pos zero) h k = omega (arith, ints)
high_low (pos m) (pos (suc n)) h k = absurd (omega (arith, ints))
high_low (pos m) (negsuc n) h k = below_zero (m * suc n)
high_low (negsuc m) b h k = absurd (omega (arith, ints))

pub low_high : (a b : ℤ) → a ≤ℤ pos 0 → pos 0 ≤ℤ b → (a *ℤ b) ≤ℤ pos 0
low_high a b h k = subst (λ z. z ≤ℤ pos 0) (turned b a) (high_low b a k h)
  where
    turned : (a b : ℤ) → a *ℤ b ≡ b *ℤ a
    turned a b = omega (arith, ints)
