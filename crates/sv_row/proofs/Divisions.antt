-- Divisors of each number of a row, and the quotients.
use Rattle.std.proofs.Common.{ℕ, List, [], ◌∷◌, ◌++◌, ◌≡◌, refl, sym, ap, ◌∙◌, subst}
use Rattle.std.proofs.lemmas.List.{append_assoc}
use Rattle.std.proofs.lemmas.Nat.Gcd.{dvd_refl, dvd_trans, dvd-zero}
use Rattle.std.specs.Int.{IsGcd, int_div_euclid, ◌∣◌}
use Rattle.std.specs.Prelude.{unsigned_abs, ◌↔◌}
use lib.IntN.{ℤ, pos, ◌*ℤ◌, *ℤ_comm}
use lib.Signed.{◌<ℤ◌}
use Rattle.sv_log.specs.LogEntries.{Monomial}
use Rattle.sv_log.specs.LogRows.{monomial, times_parts}
use Rattle.sv_fraction.proofs.Integers.{positive_is}
use Rattle.sv_fraction.proofs.Reducing.{quotient_is}
use Rattle.sv_row.specs.RowParts.{Divides, IsGreatestDivisor}

-- ---- the greatest divisor

-- what divides the divisor so far and the numbers that are left divides all
abbrev pub IsDivisorSoFar : List Monomial → List Monomial → ℕ → Type 0
IsDivisorSoFar all left g = (e : ℕ) → (e ∣ g) × Divides e left ↔ Divides e all

pub none_so_far : (all : List Monomial) → IsDivisorSoFar all all 0
none_so_far all e = (λ h. h.1, λ h. (dvd-zero e, h))

pub one_more : (all left : List Monomial) (p : Monomial) (g k h : ℕ) → k ≡ unsigned_abs p.factor → IsGcd g k h → IsDivisorSoFar all (p ∷ left) g → IsDivisorSoFar all left h
one_more all left p g k h f c i e = (
  λ d. (i e).0 (dvd_trans e d.0 c.0, (subst (λ n. e ∣ n) f (dvd_trans e d.0 c.1), d.1)),
  λ d. let b = (i e).1 d in (c.2 e b.0 (subst (λ n. e ∣ n) (sym f) b.1.0), b.1.1),
)

pub all_so_far : (all : List Monomial) (g : ℕ) → IsDivisorSoFar all [] g → IsGreatestDivisor all g
all_so_far all g i = record {
  divides = (i g).0 (dvd_refl g, tt);
  greatest = λ e d. ((i e).1 d).0;
}

-- ---- the quotients

pub exact : (k d : ℤ) → pos 0 <ℤ d → unsigned_abs d ∣ unsigned_abs k → d *ℤ int_div_euclid k d ≡ k
exact k d h v = let g = positive_is d h in
    subst (λ z. z *ℤ int_div_euclid k z ≡ k) (sym g.2)
    (*ℤ_comm (pos g.0) (int_div_euclid k (pos g.0)) ∙ quotient_is k g.0 g.1 (subst (λ z. unsigned_abs z ∣ unsigned_abs k) g.2 v))

-- the quotients so far times d, and the numbers that are left
pub record AreQuotients (d : ℤ) (all left made : List Monomial) : Type 0 where
  pub together : all ≡ times_parts d made ++ left
  pub divides : Divides (unsigned_abs d) left

pub next_quotient : (d : ℤ) (all left made : List Monomial) (p : Monomial) (q : ℤ) → pos 0 <ℤ d → q ≡ int_div_euclid p.factor d
    → AreQuotients d all (p ∷ left) made → AreQuotients d all left (made ++ monomial q p.column ∷ [])
next_quotient d all left made p q h e i = record {
  together = i.together
      ∙ (ap (λ k. times_parts d made ++ (monomial k p.column ∷ left)) (sym (ap (λ z. d *ℤ z) e ∙ exact p.factor d h i.divides.0))
      ∙ (sym (append_assoc (times_parts d made) (monomial (d *ℤ q) p.column ∷ []) left)
      ∙ ap (λ z. z ++ left) (sym (times-append d made (monomial q p.column)))));
  divides = i.divides.1;
}
  where
    times-append : (d : ℤ) (ps : List Monomial) (p : Monomial) → times_parts d (ps ++ p ∷ []) ≡ times_parts d ps ++ monomial (d *ℤ p.factor) p.column ∷ []
    times-append d [] p = refl
    times-append d (q ∷ ps) p = ap (λ z. monomial (d *ℤ q.factor) q.column ∷ z) (times-append d ps p)

pub all_quotients : (d : ℤ) (all made : List Monomial) → AreQuotients d all [] made → all ≡ times_parts d made
all_quotients d all made i = i.together ∙ empty (times_parts d made)
  where
    empty : (l : List Monomial) → l ++ [] ≡ l
    empty [] = refl
    empty (p ∷ ps) = ap (λ z. p ∷ z) (empty ps)
