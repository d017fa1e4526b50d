-- A combination is its greatest columns, its constant and its parts, put together. M, J, N, K are numbers as the code reads them.
use Rattle.std.proofs.Common.{ℕ, Bool, true, false, List, [], ◌∷◌, ◌++◌, ◌≡◌, refl, sym, ap, ap₂, ◌∙◌, subst}
use Rattle.std.specs.Prelude.{Some}
use Rattle.std.specs.Bool.{Decides}
use lib.IntN.{ℤ, ◌+ℤ◌, ◌*ℤ◌}
use Rattle.sv_num.specs.Range.{IsI128}
use Rattle.sv_log.specs.LogEntries.{Monomial, Row}
use Rattle.sv_log.specs.LogRows.{plain_monomial, row, greatest, Cancels, IsCombined}
use Rattle.sv_row.specs.RowParts.{monomials, AreInRange}
use Rattle.sv_derived.specs.RowSums.{IsSumOf, IsRowSum}

greatest_last : (ps : List Monomial) (p : Monomial) → greatest (ps ++ p ∷ []) ≡ Some p
greatest_last [] p = refl
greatest_last (q ∷ []) p = refl
greatest_last (q ∷ s ∷ ps) p = greatest_last (s ∷ ps) p

monomials_last : (ps : List (ℤ × ℕ)) (p : ℤ × ℕ) → monomials (ps ++ p ∷ []) ≡ monomials ps ++ plain_monomial p ∷ []
monomials_last [] p = refl
monomials_last (q ∷ ps) p = ap (λ z. plain_monomial q ∷ z) (monomials_last ps p)

pub greatest_of : (ps front : List (ℤ × ℕ)) (p : ℤ × ℕ) → ps ≡ front ++ p ∷ [] → greatest (monomials ps) ≡ Some (plain_monomial p)
greatest_of ps front p e = ap (λ z. greatest (monomials z)) e ∙ (ap greatest (monomials_last front p) ∙ greatest_last (monomials front) (plain_monomial p))

module _ (m j : ℤ) (ps : List Monomial) (n k : ℤ) (qs : List Monomial) (t : ℤ) (ts : List Monomial) where
  abbrev Claim : Type 0
  Claim = IsCombined m (row j ps) n (row k qs) (row t ts)

  pub no_first : ps ≡ [] → Claim → ⊥
  no_first e i = cc (i.cancels.2, ap greatest e)

  pub no_second : qs ≡ [] → Claim → ⊥
  no_second e i = cc (i.cancels.3, ap greatest e)

  sum_of_claim : Claim → IsRowSum m j ps n k qs t ts
  sum_of_claim i =
      let parts = ap (λ (z : Row). z.parts) i.is in record {
        multiples = (i.multiples.0.0, i.multiples.1.0);
        fits = i.fits.0;
        is = ap (λ (z : Row). z.constant) i.is;
        parts = record {
          fits = record { first = i.multiples.0.1; second = i.multiples.1.1; sum = subst AreInRange parts i.fits.1 };
          is = parts;
        };
      }

  module _ (p q : Monomial) (gp : greatest ps ≡ Some p) (gq : greatest qs ≡ Some q) where
    first_is : (i : Claim) → i.cancels.0 ≡ p
    first_is i = cc (i.cancels.2, gp)

    second_is : (i : Claim) → i.cancels.1 ≡ q
    second_is i = cc (i.cancels.3, gq)

    pub other_columns : (p.column ≡ q.column → ⊥) → Claim → ⊥
    other_columns h i = h (ap (λ (z : Monomial). z.column) (sym (first_is i)) ∙ (i.cancels.4 ∙ ap (λ (z : Monomial). z.column) (second_is i)))

    cancels_of : Claim → Cancels m n p.factor q.factor
    cancels_of i = subst (λ (z : Monomial). Cancels m n z.factor q.factor) (first_is i) (subst (λ (z : Monomial). Cancels m n i.cancels.0.factor z.factor) (second_is i) i.cancels.5)

    pub not_cancelling : (r : Bool) → Decides r (Cancels m n p.factor q.factor) → r ≡ false → Claim → ⊥
    not_cancelling r d f i = let e = d.1 (cancels_of i) in let g : true ≡ false = sym e ∙ f in cc g

    pub combined_is : (r : Bool) → p.column ≡ q.column → Cancels m n p.factor q.factor → Decides r (IsRowSum m j ps n k qs t ts) → Decides r Claim
    combined_is r columns c d = (
      (λ e. let s = d.0 e in record {
        cancels = (p, q, gp, gq, columns, c);
        multiples = ((s.multiples.0, s.parts.fits.first), (s.multiples.1, s.parts.fits.second));
        fits = (s.fits, subst AreInRange (sym s.parts.is) s.parts.fits.sum);
        is = ap₂ (λ y z. row y z) s.is s.parts.is;
      }),
      λ (i : Claim). d.1 (sum_of_claim i),
    )

module _ (m j n k M J N K : ℤ) (em : M ≡ m) (ej : J ≡ j) (en : N ≡ n) (ek : K ≡ k) (ps qs : List Monomial) (t : ℤ) (ts : List Monomial) where
  first_read : M *ℤ J ≡ m *ℤ j
  first_read = ap₂ (λ y z. y *ℤ z) em ej

  second_read : N *ℤ K ≡ n *ℤ k
  second_read = ap₂ (λ y z. y *ℤ z) en ek

  sum_read : M *ℤ J +ℤ N *ℤ K ≡ m *ℤ j +ℤ n *ℤ k
  sum_read = ap₂ (λ y z. y +ℤ z) first_read second_read

  pub fits_read : IsRowSum m j ps n k qs t ts → IsI128 (M *ℤ J) × IsI128 (N *ℤ K) × IsI128 (M *ℤ J +ℤ N *ℤ K)
  fits_read s = (subst IsI128 (sym first_read) s.multiples.0, subst IsI128 (sym second_read) s.multiples.1, subst IsI128 (s.is ∙ sym sum_read) s.fits)

  pub other_constant : (c : ℤ) → c ≡ M *ℤ J +ℤ N *ℤ K → (c ≡ t → ⊥) → IsRowSum m j ps n k qs t ts → ⊥
  other_constant c e h s = h (e ∙ (sum_read ∙ sym s.is))

  pub row_sum_is : (c : ℤ) (r : Bool) → c ≡ M *ℤ J +ℤ N *ℤ K → c ≡ t → IsI128 (M *ℤ J) × IsI128 (N *ℤ K) × IsI128 (M *ℤ J +ℤ N *ℤ K) → Decides r (IsSumOf m ps n qs ts) → Decides r (IsRowSum m j ps n k qs t ts)
  row_sum_is c r e h f d = (
    (λ b. record {
      multiples = (subst IsI128 first_read f.0, subst IsI128 second_read f.1);
      fits = subst IsI128 (sym e ∙ h) f.2;
      is = sym h ∙ (e ∙ sum_read);
      parts = d.0 b;
    }),
    λ s. d.1 s.parts,
  )

-- ---- what calls say of the numbers that they read

module _ (m n f g M N F G : ℤ) (em : M ≡ m) (en : N ≡ n) (ef : F ≡ f) (eg : G ≡ g) where
  pub cancels_read : (r : Bool) → Decides r (Cancels M N F G) → Decides r (Cancels m n f g)
  cancels_read r d =
      subst (λ z. Decides r (Cancels z n f g)) em
      (subst (λ z. Decides r (Cancels M z f g)) en
      (subst (λ z. Decides r (Cancels M N z g)) ef
      (subst (λ z. Decides r (Cancels M N F z)) eg d)))

module _ (m j n k t M J N K T : ℤ) (em : M ≡ m) (ej : J ≡ j) (en : N ≡ n) (ek : K ≡ k) (et : T ≡ t) (ps qs ts : List Monomial) where
  pub row_sum_read : (r : Bool) → Decides r (IsRowSum M J ps N K qs T ts) → Decides r (IsRowSum m j ps n k qs t ts)
  row_sum_read r d =
      subst (λ z. Decides r (IsRowSum z j ps n k qs t ts)) em
      (subst (λ z. Decides r (IsRowSum M z ps n k qs t ts)) ej
      (subst (λ z. Decides r (IsRowSum M J ps z k qs t ts)) en
      (subst (λ z. Decides r (IsRowSum M J ps N z qs t ts)) ek
      (subst (λ z. Decides r (IsRowSum M J ps N K qs z ts)) et d))))

module _ (m n M N : ℤ) (em : M ≡ m) (en : N ≡ n) (ps qs ts : List Monomial) where
  pub sum_read_back : (r : Bool) → Decides r (IsSumOf M ps N qs ts) → Decides r (IsSumOf m ps n qs ts)
  sum_read_back r d = subst (λ z. Decides r (IsSumOf z ps n qs ts)) em (subst (λ z. Decides r (IsSumOf M ps z qs ts)) en d)
