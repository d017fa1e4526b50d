-- A sum, a multiple and a quotient of parts in normal form are in normal form.
use Rattle.std.proofs.Common.{ℕ, zero, suc, ◌<◌, ◌⊎◌, inl, inr, Bool, true, false, cond, nat_eq, nat_lt, List, [], ◌∷◌, ◌≡◌, refl, sym, ap, ◌∙◌, subst, arith}
use Rattle.std.proofs.lemmas.Int.{ints}
use Rattle.std.proofs.lemmas.Bool.Decides.{Decides-eqb, Decides-ltb}
use lib.IntN.{ℤ, pos, negsuc, ◌+ℤ◌, ◌*ℤ◌}
use lib.Signed.{◌<ℤ◌}
use Rattle.sv_log.specs.LogEntries.{Monomial, Row}
use Rattle.sv_log.specs.LogRows.{monomial, is_zero, with_part, with_parts, times_parts, IsCombined, IsDivided}
use Rattle.sv_row.specs.RowParts.{AreAbove, AreRising, AreNonZero, IsNormal}
use Rattle.sv_row.proofs.Sums.{above_more, above_parts, above_times}
use Rattle.sv_normal.specs.NormalLaws.{RowsStayNormal}

not_zero : (k : ℤ) → is_zero k ≡ false → k ≡ pos 0 → ⊥
not_zero k e z = let d = ap is_zero z in absurd (let f : true ≡ false = sym d ∙ e in cc f)

rising_part : (k : ℤ) (x : ℕ) (ps : List Monomial) → AreRising ps → AreRising (with_part k x ps)
rising_part k x [] a = go (is_zero k)
  where
    go : (t : Bool) → AreRising (cond t [] (monomial k x ∷ []))
    go true = tt
    go false = (tt, tt)
rising_part k x (p ∷ ps) a = here (nat_eq x p.column) refl (nat_lt x p.column) refl (rising_part k x ps a.1)
  where
    same : x ≡ p.column → (t : Bool) → AreRising (cond t ps (monomial (k +ℤ p.factor) x ∷ ps))
    same e true = a.1
    same e false = (subst (λ y. AreAbove y ps) (sym e) a.0, a.1)

    front : x < p.column → (t : Bool) → AreRising (cond t (p ∷ ps) (monomial k x ∷ p ∷ ps))
    front h true = a
    front h false = ((h, above_more x p.column ps h a.0), a)

    here : (t : Bool) → nat_eq x p.column ≡ t → (u : Bool) → nat_lt x p.column ≡ u → AreRising (with_part k x ps)
        → AreRising (cond t (cond (is_zero (k +ℤ p.factor)) ps (monomial (k +ℤ p.factor) x ∷ ps)) (cond u (cond (is_zero k) (p ∷ ps) (monomial k x ∷ p ∷ ps)) (p ∷ with_part k x ps)))
    here true e u f g = same ((Decides-eqb x p.column).0 e) (is_zero (k +ℤ p.factor))
    here false e true f g = front ((Decides-ltb x p.column).0 f) (is_zero k)
    here false e false f g = (above_parts p.column (monomial k x ∷ []) ps (beyond e f, tt) a.0, g)
      where
        beyond : nat_eq x p.column ≡ false → nat_lt x p.column ≡ false → p.column < x
        beyond e f = by_order (order x p.column)
          where
            order : (x y : ℕ) → (x < y) ⊎ ((x ≡ y) ⊎ (y < x))
            order zero zero = inr (inl refl)
            order zero (suc y) = inl (omega arith)
            order (suc x) zero = inr (inr (omega arith))
            order (suc x) (suc y) = elim (order x y) [ inl a ↦ inl (omega (arith, a)) | inr b ↦ inr (elim b [ inl e ↦ inl (ap suc e) | inr c ↦ inr (omega (arith, c)) ]) ]

            by_order : (x < p.column) ⊎ ((x ≡ p.column) ⊎ (p.column < x)) → p.column < x
            by_order (inl h) = let d = (Decides-ltb x p.column).1 h in absurd (let g : true ≡ false = sym d ∙ f in cc g)
            by_order (inr (inl h)) = let d = (Decides-eqb x p.column).1 h in absurd (let g : true ≡ false = sym d ∙ e in cc g)
            by_order (inr (inr h)) = h

rising_sum : (ps qs : List Monomial) → AreRising qs → AreRising (with_parts ps qs)
rising_sum [] qs b = b
rising_sum (p ∷ ps) qs b = rising_part p.factor p.column (with_parts ps qs) (rising_sum ps qs b)

rising_times : (m : ℤ) (ps : List Monomial) → AreRising ps → AreRising (times_parts m ps)
rising_times m [] a = tt
rising_times m (p ∷ ps) a = (above_times p.column m ps a.0, rising_times m ps a.1)

above_quotient : (x : ℕ) (d : ℤ) (ps : List Monomial) → AreAbove x (times_parts d ps) → AreAbove x ps
above_quotient x d [] a = tt
above_quotient x d (p ∷ ps) a = (a.0, above_quotient x d ps a.1)

rising_quotient : (d : ℤ) (ps : List Monomial) → AreRising (times_parts d ps) → AreRising ps
rising_quotient d [] a = tt
rising_quotient d (p ∷ ps) a = (above_quotient p.column d ps a.0, rising_quotient d ps a.1)

non_zero_part : (k : ℤ) (x : ℕ) (ps : List Monomial) → AreNonZero ps → AreNonZero (with_part k x ps)
non_zero_part k x [] a = go (is_zero k) refl
  where
    go : (t : Bool) → is_zero k ≡ t → AreNonZero (cond t [] (monomial k x ∷ []))
    go true e = tt
    go false e = (not_zero k e, tt)
non_zero_part k x (p ∷ ps) a = here (nat_eq x p.column) (nat_lt x p.column) (non_zero_part k x ps a.1)
  where
    same : (t : Bool) → is_zero (k +ℤ p.factor) ≡ t → AreNonZero (cond t ps (monomial (k +ℤ p.factor) x ∷ ps))
    same true e = a.1
    same false e = (not_zero (k +ℤ p.factor) e, a.1)

    front : (t : Bool) → is_zero k ≡ t → AreNonZero (cond t (p ∷ ps) (monomial k x ∷ p ∷ ps))
    front true e = a
    front false e = (not_zero k e, a)

    here : (t u : Bool) → AreNonZero (with_part k x ps)
        → AreNonZero (cond t (cond (is_zero (k +ℤ p.factor)) ps (monomial (k +ℤ p.factor) x ∷ ps)) (cond u (cond (is_zero k) (p ∷ ps) (monomial k x ∷ p ∷ ps)) (p ∷ with_part k x ps)))
    here true u g = same (is_zero (k +ℤ p.factor)) refl
    here false true g = front (is_zero k) refl
    here false false g = (a.0, g)

non_zero_sum : (ps qs : List Monomial) → AreNonZero qs → AreNonZero (with_parts ps qs)
non_zero_sum [] qs b = b
non_zero_sum (p ∷ ps) qs b = non_zero_part p.factor p.column (with_parts ps qs) (non_zero_sum ps qs b)

product_not_zero : (m k : ℤ) → pos 0 <ℤ m → (k ≡ pos 0 → ⊥) → m *ℤ k ≡ pos 0 → ⊥
product_not_zero (negsuc m) k h n e = absurd (omega (arith, ints))
product_not_zero (pos zero) k h n e = absurd (omega (arith, ints))
product_not_zero (pos (suc m)) (pos zero) h n e = n refl
product_not_zero (pos (suc m)) (pos (suc k)) h n e = absurd (omega (arith, ints, e))
product_not_zero (pos (suc m)) (negsuc k) h n e = absurd (omega (arith, ints, e))

non_zero_times : (m : ℤ) (ps : List Monomial) → pos 0 <ℤ m → AreNonZero ps → AreNonZero (times_parts m ps)
non_zero_times m [] h n = tt
non_zero_times m (p ∷ ps) h n = (product_not_zero m p.factor h n.0, non_zero_times m ps h n.1)

product_zero : (d k : ℤ) → k ≡ pos 0 → d *ℤ k ≡ pos 0
product_zero d k e = ap (λ z. d *ℤ z) e ∙ none d
  where
    none : (d : ℤ) → d *ℤ pos 0 ≡ pos 0
    none d = omega (arith, ints)

non_zero_quotient : (d : ℤ) (ps : List Monomial) → AreNonZero (times_parts d ps) → AreNonZero ps
non_zero_quotient d [] n = tt
non_zero_quotient d (p ∷ ps) n = (λ e. n.0 (product_zero d p.factor e), non_zero_quotient d ps n.1)

pub combined_normal : (m n : ℤ) (r s t : Row) → IsCombined m r n s t → IsNormal s.parts → IsNormal t.parts
combined_normal m n r s t c f = record {
  rising = subst AreRising (sym (ap (λ (u : Row). u.parts) c.is)) (rising_sum (times_parts m r.parts) (times_parts n s.parts) (rising_times n s.parts f.rising));
  non_zero = subst AreNonZero (sym (ap (λ (u : Row). u.parts) c.is)) (non_zero_sum (times_parts m r.parts) (times_parts n s.parts) (non_zero_times n s.parts c.cancels.5.second f.non_zero));
}

pub divided_normal : (d : ℤ) (r t : Row) → IsDivided d r t → IsNormal r.parts → IsNormal t.parts
divided_normal d r t h f = record {
  rising = rising_quotient d t.parts (subst AreRising h.parts f.rising);
  non_zero = non_zero_quotient d t.parts (subst AreNonZero h.parts f.non_zero);
}

pub rows_stay_normal : RowsStayNormal
rows_stay_normal = record { combined = combined_normal; divided = divided_normal }
