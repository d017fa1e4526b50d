-- The combination of two rows, or what is too large of it.
use Rattle.std.proofs.Common.{ℕ, List, [], ◌∷◌, ◌++◌, length, ◌≡◌, refl, sym, ap, ap₂, ◌∙◌, subst, arith}
use Rattle.std.proofs.lemmas.List.{map-append, same_from_push, length_push, length-map}
use Rattle.std.specs.Prelude.{Option, None, Some, MatchOption}
use lib.IntN.{ℤ, ◌+ℤ◌, ◌*ℤ◌}
use Rattle.sv_num.specs.Range.{IsI128}
use Rattle.sv_log.specs.LogEntries.{Monomial, Row}
use Rattle.sv_log.specs.LogRows.{plain_monomial, monomial, row, greatest, times, sum_of, FitsRow, Cancels, IsCombined}
use Rattle.sv_row.specs.RowParts.{monomials, FitsMultiples, sum_of_multiples}
use Rattle.sv_row.specs.SumSteps.{FitsBoth}
use Rattle.sv_lin.specs.Eliminations.{ExceedsCombination}
use Rattle.sv_lin.specs.CancellingRows.{row_by, CanCancel}

pub greatest_last : (ps : List Monomial) (p : Monomial) → greatest (ps ++ p ∷ []) ≡ Some p
greatest_last [] p = refl
greatest_last (q ∷ []) p = refl
greatest_last (q ∷ s ∷ ps) p = greatest_last (s ∷ ps) p

-- the last pair is the greatest column's
pub last_is : (ps rest : List (ℤ × ℕ)) (p : ℤ × ℕ) (lows : List Monomial) (k : ℤ) (x : ℕ) → ps ≡ rest ++ p ∷ [] → monomials ps ≡ lows ++ monomial k x ∷ [] → p.0 ≡ k
last_is ps rest p lows k x e f =
    ap (λ (q : Monomial). q.factor) (same_from_push (monomials rest) lows (plain_monomial p) (monomial k x) (sym (map-append plain_monomial rest (p ∷ [])) ∙ (sym (ap monomials e) ∙ f))).1

pub not_empty : (ps : List (ℤ × ℕ)) (lows : List Monomial) (p : Monomial) → length ps ≡ 0 → monomials ps ≡ lows ++ p ∷ [] → ⊥
not_empty ps lows p e f = let a = ap (λ (qs : List Monomial). length qs) f in let b = length-map ps plain_monomial in let d = length_push lows p in absurd (omega (arith, e, a, b, d))

pub at_none : {X : Type 0} (o : Option X) (A : Type 0) (B : X → Type 0) → o ≡ None → MatchOption o A B → A
at_none o A B e h = subst (λ p. MatchOption p A B) e h

pub at_some : {X : Type 0} (o : Option X) (A : Type 0) (B : X → Type 0) (x : X) → o ≡ Some x → MatchOption o A B → B x
at_some o A B x e h = subst (λ p. MatchOption p A B) e h

pub cancels_from : (m n k l i j : ℤ) → i ≡ k → j ≡ l → Cancels m n i j → Cancels m n k l
cancels_from m n k l i j e f c = subst (λ y. Cancels m n k y) f (subst (λ x. Cancels m n x j) e c)

pub fits_from : (m n k l i j x y : ℤ) → i ≡ m → j ≡ n → x ≡ k → y ≡ l → FitsBoth i x j y → FitsBoth m k n l
fits_from m n k l i j x y e f g h b =
    let own = ap₂ (λ a b. a *ℤ b) e g in
    let other = ap₂ (λ a b. a *ℤ b) f h in
    (subst IsI128 own b.0, subst IsI128 other b.1, subst IsI128 (ap₂ (λ a b. a +ℤ b) own other) b.2)

pub parts_from : (m n i j : ℤ) (ps qs : List Monomial) → i ≡ m → j ≡ n → FitsMultiples i ps j qs → FitsMultiples m ps n qs
parts_from m n i j ps qs e f g = subst (λ y. FitsMultiples m ps y qs) f (subst (λ x. FitsMultiples x ps j qs) e g)

pub sum_from : (m n i j : ℤ) (ps qs : List Monomial) → i ≡ m → j ≡ n → sum_of_multiples i ps j qs ≡ sum_of_multiples m ps n qs
sum_from m n i j ps qs e f = ap₂ (λ a b. sum_of_multiples a ps b qs) e f

pub combined_from : (m n i j t u : ℤ) (r s : Row) (made : List (ℤ × ℕ)) → i ≡ m → j ≡ n → u ≡ t → IsCombined m r n s (row_by t made) → IsCombined i r j s (row_by u made)
combined_from m n i j t u r s made e f g c =
    subst (λ x. IsCombined x r j s (row_by u made)) (sym e) (subst (λ y. IsCombined m r y s (row_by u made)) (sym f) (subst (λ z. IsCombined m r n s (row_by z made)) (sym g) c))

module _ (k l : ℤ) (own other : List (ℤ × ℕ)) (h : CanCancel (row_by k own) (row_by l other)) (m n : ℤ) (c : Cancels m n h.first h.second) where
  exceeds : ((IsI128 m × IsI128 n × FitsRow (times m (row_by k own)) × FitsRow (times n (row_by l other)) × FitsRow (sum_of (times m (row_by k own)) (times n (row_by l other)))) → ⊥)
      → ExceedsCombination (row_by k own) (row_by l other)
  exceeds r = record {
    column = h.column;
    first = h.first;
    second = h.second;
    of_first = h.of_first;
    of_second = h.of_second;
    m = m;
    n = n;
    cancels = c;
    exceeds = r;
  }

  pub by_multipliers : (IsI128 m × IsI128 n → ⊥) → ExceedsCombination (row_by k own) (row_by l other)
  by_multipliers r = exceeds (λ f. r (f.0, f.1))

  pub by_constant : (FitsBoth m k n l → ⊥) → ExceedsCombination (row_by k own) (row_by l other)
  by_constant r = exceeds (λ f. r (f.2.0, f.3.0, f.4.0))

  pub by_parts : (FitsMultiples m (monomials own) n (monomials other) → ⊥) → ExceedsCombination (row_by k own) (row_by l other)
  by_parts r = exceeds (λ f. r record { first = f.2.1; second = f.3.1; sum = f.4.1 })

  pub is_combined : (t : ℤ) (made : List (ℤ × ℕ)) → FitsBoth m k n l → FitsMultiples m (monomials own) n (monomials other)
      → t ≡ m *ℤ k +ℤ n *ℤ l → monomials made ≡ sum_of_multiples m (monomials own) n (monomials other)
      → IsCombined m (row_by k own) n (row_by l other) (row_by t made)
  is_combined t made f g e d = record {
    cancels = (
      monomial h.first h.column,
      monomial h.second h.column,
      ap greatest h.of_first.is ∙ greatest_last h.of_first.lows (monomial h.first h.column),
      ap greatest h.of_second.is ∙ greatest_last h.of_second.lows (monomial h.second h.column),
      refl,
      c,
    );
    multiples = ((f.0, g.first), (f.1, g.second));
    fits = subst FitsRow (sym (ap₂ row e d)) (f.2, g.sum);
    is = ap₂ row e d;
  }
