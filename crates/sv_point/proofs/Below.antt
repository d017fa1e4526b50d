-- What two rows make by cancelling their greatest column lies below it.
use Rattle.std.proofs.Common.{ℕ, ◌<◌, Bool, true, false, cond, nat_eq, nat_lt, List, [], ◌∷◌, ◌++◌, ◌≡◌, refl, sym, ap, ap₂, ◌∙◌, subst, arith}
use Rattle.std.proofs.lemmas.Int.{ints}
use Rattle.std.proofs.lemmas.Bool.Decides.{Decides-eqb, Decides-ltb}
use lib.IntN.{ℤ, pos, ◌+ℤ◌, ◌*ℤ◌}
use Rattle.sv_log.specs.LogEntries.{Monomial}
use Rattle.sv_log.specs.LogRows.{monomial, total, is_zero, with_part, with_parts, times_parts}
use Rattle.sv_point.specs.NearestPoints.{AreBelow}

unequal : (x y : ℕ) → y < x → nat_eq x y ≡ false
unequal x y h = go (nat_eq x y) refl
  where
    go : (b : Bool) → nat_eq x y ≡ b → b ≡ false
    go true e = absurd (let d = (Decides-eqb x y).0 e in omega arith)
    go false e = refl

not_less : (x y : ℕ) → y < x → nat_lt x y ≡ false
not_less x y h = go (nat_lt x y) refl
  where
    go : (b : Bool) → nat_lt x y ≡ b → b ≡ false
    go true e = absurd (let d = (Decides-ltb x y).0 e in omega arith)
    go false e = refl

zero_sum : (k l : ℤ) → k +ℤ l ≡ pos 0 → is_zero (k +ℤ l) ≡ true
zero_sum k l e = ap is_zero e

equal_self : (x : ℕ) → nat_eq x x ≡ true
equal_self x = (Decides-eqb x x).1 refl

-- the numbers of the greatest column cancel
pub cancels : (k l : ℤ) (c : ℕ) (lows : List Monomial) → k +ℤ l ≡ pos 0 → AreBelow c lows → with_part k c (lows ++ monomial l c ∷ []) ≡ lows
cancels k l c [] e b = ap (λ t. cond t (cond (is_zero (k +ℤ l)) [] (monomial (k +ℤ l) c ∷ [])) (cond (nat_lt c c) (cond (is_zero k) (monomial l c ∷ []) (monomial k c ∷ monomial l c ∷ [])) (monomial l c ∷ with_part k c []))) (equal_self c)
    ∙ ap (λ t. cond t [] (monomial (k +ℤ l) c ∷ [])) (zero_sum k l e)
cancels k l c (p ∷ ps) e b =
    ap₂ (λ t u. cond t (cond (is_zero (k +ℤ p.factor)) (ps ++ monomial l c ∷ []) (monomial (k +ℤ p.factor) c ∷ (ps ++ monomial l c ∷ []))) (cond u (cond (is_zero k) (p ∷ (ps ++ monomial l c ∷ [])) (monomial k c ∷ p ∷ (ps ++ monomial l c ∷ []))) (p ∷ with_part k c (ps ++ monomial l c ∷ [])))) (unequal c p.column b.0) (not_less c p.column b.0)
    ∙ ap (λ z. p ∷ z) (cancels k l c ps e b.1)

below_part : (c : ℕ) (k : ℤ) (x : ℕ) (ps : List Monomial) → x < c → AreBelow c ps → AreBelow c (with_part k x ps)
below_part c k x [] h b = go (is_zero k)
  where
    go : (t : Bool) → AreBelow c (cond t [] (monomial k x ∷ []))
    go true = tt
    go false = (h, tt)
below_part c k x (p ∷ ps) h b = here (nat_eq x p.column) (below_part c k x ps h b.1)
  where
    same : (t : Bool) → AreBelow c (cond t ps (monomial (k +ℤ p.factor) x ∷ ps))
    same true = b.1
    same false = (h, b.1)

    front : (t : Bool) → AreBelow c (cond t (p ∷ ps) (monomial k x ∷ p ∷ ps))
    front true = b
    front false = (h, b)

    less : (t : Bool) → AreBelow c (with_part k x ps) → AreBelow c (cond t (cond (is_zero k) (p ∷ ps) (monomial k x ∷ p ∷ ps)) (p ∷ with_part k x ps))
    less true g = front (is_zero k)
    less false g = (b.0, g)

    here : (t : Bool) → AreBelow c (with_part k x ps) → AreBelow c (cond t (cond (is_zero (k +ℤ p.factor)) ps (monomial (k +ℤ p.factor) x ∷ ps)) (cond (nat_lt x p.column) (cond (is_zero k) (p ∷ ps) (monomial k x ∷ p ∷ ps)) (p ∷ with_part k x ps)))
    here true g = same (is_zero (k +ℤ p.factor))
    here false g = less (nat_lt x p.column) g

-- what is combined at the column c lies below it
pub combined_below : (c : ℕ) (k l : ℤ) (lows others : List Monomial) → k +ℤ l ≡ pos 0 → AreBelow c lows → AreBelow c others → AreBelow c (with_parts (lows ++ monomial k c ∷ []) (others ++ monomial l c ∷ []))
combined_below c k l [] others e b d = subst (AreBelow c) (sym (cancels k l c others e d)) d
combined_below c k l (p ∷ lows) others e b d = below_part c p.factor p.column (with_parts (lows ++ monomial k c ∷ []) (others ++ monomial l c ∷ [])) b.0 (combined_below c k l lows others e b.1 d)

pub times_last : (k f : ℤ) (c : ℕ) (lows : List Monomial) → times_parts k (lows ++ monomial f c ∷ []) ≡ times_parts k lows ++ monomial (k *ℤ f) c ∷ []
times_last k f c [] = refl
times_last k f c (p ∷ ps) = ap (λ z. monomial (k *ℤ p.factor) p.column ∷ z) (times_last k f c ps)

pub times_below : (c : ℕ) (k : ℤ) (ps : List Monomial) → AreBelow c ps → AreBelow c (times_parts k ps)
times_below c k [] b = tt
times_below c k (p ∷ ps) b = (b.0, times_below c k ps b.1)

pub last_total : (at : ℕ → ℤ) (f : ℤ) (c : ℕ) (lows : List Monomial) → total at (lows ++ monomial f c ∷ []) ≡ total at lows +ℤ f *ℤ at c
last_total at f c [] = none (f *ℤ at c)
  where
    none : (z : ℤ) → z +ℤ pos 0 ≡ pos 0 +ℤ z
    none z = omega (arith, ints)
last_total at f c (p ∷ ps) = ap (λ z. p.factor *ℤ at p.column +ℤ z) (last_total at f c ps) ∙ shift (p.factor *ℤ at p.column) (total at ps) (f *ℤ at c)
  where
    shift : (x y z : ℤ) → x +ℤ (y +ℤ z) ≡ (x +ℤ y) +ℤ z
    shift x y z = omega (arith, ints)
