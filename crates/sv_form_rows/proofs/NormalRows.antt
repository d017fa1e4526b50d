-- Sums and multiples of rows in normal form are in normal form.
use Rattle.std.proofs.Common.{ℕ, zero, suc, ◌<◌, Bool, true, false, cond, nat_eq, nat_lt, List, [], ◌∷◌, ◌≡◌, refl, sym, ap, ◌∙◌, subst, arith}
use Rattle.std.proofs.lemmas.Int.{ints}
use Rattle.std.proofs.lemmas.Bool.Decides.{Decides-eqb, Decides-ltb}
use lib.IntN.{ℤ, pos, negsuc, ◌+ℤ◌, ◌*ℤ◌}
use Rattle.sv_log.specs.LogEntries.{Monomial, Row}
use Rattle.sv_log.specs.LogRows.{monomial, row, is_zero, with_part, with_parts, times_parts, sum_of, times, multiple, difference}
use Rattle.sv_row.specs.RowParts.{AreAbove, AreRising, AreNonZero, IsNormal}
use Rattle.sv_row.proofs.Sums.{above_more, above_times, above_parts}

not_zero : (k : ℤ) → is_zero k ≡ false → k ≡ pos 0 → ⊥
not_zero k e z = let d = ap is_zero z in absurd (let f : true ≡ false = sym d ∙ e in cc f)

module _ (k : ℤ) (x : ℕ) where
  normal_part : (ps : List Monomial) → AreRising ps → AreNonZero ps → AreRising (with_part k x ps) × AreNonZero (with_part k x ps)
  normal_part [] r n = go (is_zero k) refl
    where
      go : (t : Bool) → is_zero k ≡ t → AreRising (cond t [] (monomial k x ∷ [])) × AreNonZero (cond t [] (monomial k x ∷ []))
      go true e = (tt, tt)
      go false e = ((tt, tt), (not_zero k e, tt))
  normal_part (p ∷ ps) r n = here (nat_eq x p.column) refl (nat_lt x p.column) refl (normal_part ps r.1 n.1)
    where
      same : x ≡ p.column → (t : Bool) → is_zero (k +ℤ p.factor) ≡ t
          → AreRising (cond t ps (monomial (k +ℤ p.factor) x ∷ ps)) × AreNonZero (cond t ps (monomial (k +ℤ p.factor) x ∷ ps))
      same e true z = (r.1, n.1)
      same e false z = ((subst (λ y. AreAbove y ps) (sym e) r.0, r.1), (not_zero (k +ℤ p.factor) z, n.1))

      front : x < p.column → (t : Bool) → is_zero k ≡ t → AreRising (cond t (p ∷ ps) (monomial k x ∷ p ∷ ps)) × AreNonZero (cond t (p ∷ ps) (monomial k x ∷ p ∷ ps))
      front h true z = (r, n)
      front h false z = (((h, above_more x p.column ps h r.0), r), (not_zero k z, n))

      beyond : nat_eq x p.column ≡ false → nat_lt x p.column ≡ false → p.column < x
      beyond e f =
          let g : x ≡ p.column → ⊥ = (λ h. cc (e, (Decides-eqb x p.column).1 h)) in
          let i : x < p.column → ⊥ = (λ h. cc (f, (Decides-ltb x p.column).1 h)) in
          omega (arith, g, i)

      here : (t : Bool) → nat_eq x p.column ≡ t → (u : Bool) → nat_lt x p.column ≡ u → AreRising (with_part k x ps) × AreNonZero (with_part k x ps)
          → AreRising (cond t (cond (is_zero (k +ℤ p.factor)) ps (monomial (k +ℤ p.factor) x ∷ ps)) (cond u (cond (is_zero k) (p ∷ ps) (monomial k x ∷ p ∷ ps)) (p ∷ with_part k x ps)))
          × AreNonZero (cond t (cond (is_zero (k +ℤ p.factor)) ps (monomial (k +ℤ p.factor) x ∷ ps)) (cond u (cond (is_zero k) (p ∷ ps) (monomial k x ∷ p ∷ ps)) (p ∷ with_part k x ps)))
      here true e u f g = same ((Decides-eqb x p.column).0 e) (is_zero (k +ℤ p.factor)) refl
      here false e true f g = front ((Decides-ltb x p.column).0 f) (is_zero k) refl
      here false e false f g = ((above_parts p.column (monomial k x ∷ []) ps (beyond e f, tt) r.0, g.0), (n.0, g.1))

normal_parts : (ps qs : List Monomial) → IsNormal qs → IsNormal (with_parts ps qs)
normal_parts [] qs n = n
normal_parts (p ∷ ps) qs n =
    let m = normal_parts ps qs n in
    let h = normal_part p.factor p.column (with_parts ps qs) m.rising m.non_zero in
    record { rising = h.0; non_zero = h.1 }

rising_times : (m : ℤ) (ps : List Monomial) → AreRising ps → AreRising (times_parts m ps)
rising_times m [] a = tt
rising_times m (p ∷ ps) a = (above_times p.column m ps a.0, rising_times m ps a.1)

non_zero_product : (a b : ℤ) → (a ≡ pos 0 → ⊥) → (b ≡ pos 0 → ⊥) → a *ℤ b ≡ pos 0 → ⊥
non_zero_product (pos zero) b h i e = h refl
non_zero_product (pos (suc m)) (pos zero) h i e = i refl
non_zero_product (pos (suc m)) (pos (suc k)) h i e = absurd (omega (arith, ints, e))
non_zero_product (pos (suc m)) (negsuc k) h i e = absurd (omega (arith, ints, e))
non_zero_product (negsuc m) (pos zero) h i e = i refl
non_zero_product (negsuc m) (pos (suc k)) h i e = absurd (omega (arith, ints, e))
non_zero_product (negsuc m) (negsuc k) h i e = absurd (omega (arith, ints, e))

non_zero_times : (m : ℤ) (ps : List Monomial) → (m ≡ pos 0 → ⊥) → AreNonZero ps → AreNonZero (times_parts m ps)
non_zero_times m [] h a = tt
non_zero_times m (p ∷ ps) h a = (non_zero_product m p.factor h a.0, non_zero_times m ps h a.1)

normal_times : (m : ℤ) (ps : List Monomial) → (m ≡ pos 0 → ⊥) → IsNormal ps → IsNormal (times_parts m ps)
normal_times m ps h n = record { rising = rising_times m ps n.rising; non_zero = non_zero_times m ps h n.non_zero }

pub normal_sum : (r s : Row) → IsNormal s.parts → IsNormal (sum_of r s).parts
normal_sum r s n = normal_parts r.parts s.parts n

pub normal_difference : (r s : Row) → IsNormal s.parts → IsNormal (difference r s).parts
normal_difference r s n = normal_parts r.parts (times_parts (negsuc 0) s.parts) (normal_times (negsuc 0) s.parts (λ e. cc e) n)

pub normal_multiple : (k : ℤ) (r : Row) → IsNormal r.parts → IsNormal (multiple k r).parts
normal_multiple k r n = go (is_zero k) refl
  where
    go : (b : Bool) → is_zero k ≡ b → IsNormal (cond b (row (pos 0) []) (times k r)).parts
    go true e = record { rising = tt; non_zero = tt }
    go false e = normal_times k r.parts (not_zero k e) n
