-- The numbers of a row by columns: those of sums and multiples, when they fit, and that they make the row.
use Rattle.std.proofs.Common.{ℕ, zero, suc, ◌+◌, ◌≤◌, ◌⊎◌, inl, inr, Bool, true, false, cond, nat_eq, List, [], ◌∷◌, ◌++◌, ◌≡◌, refl, sym, ap, ap₂, ◌∙◌, subst, arith}
use Rattle.std.proofs.lemmas.Int.{ints}
use Rattle.std.proofs.lemmas.Bool.Decides.{Decides-eqb}
use Rattle.std.proofs.lemmas.List.Elements.{All-cons}
use lib.IntN.{ℤ, pos, ◌+ℤ◌, ◌*ℤ◌}
use Rattle.sv_num.specs.Range.{IsI128}
use Rattle.sv_log.specs.LogEntries.{Monomial}
use Rattle.sv_log.specs.LogRows.{monomial, is_zero}
use Rattle.sv_log.proofs.Amounts.{zero_is}
use Rattle.sv_row.specs.RowParts.{AreAbove, AreRising, AreNonZero, AreInRange, IsNormal}
use Rattle.sv_row.specs.SumSteps.{part}
use Rattle.sv_form_rows.specs.Listings.{only, number_in, listing}

-- ---- one column

pub only_self : (k : ℕ) → only k k ≡ pos 1
only_self k = ap (λ b. cond b (pos 1) (pos 0)) ((Decides-eqb k k).1 refl)

pub only_other : (k x : ℕ) → (x ≡ k → ⊥) → only k x ≡ pos 0
only_other k x h = go (nat_eq x k) refl
  where
    go : (b : Bool) → nat_eq x k ≡ b → cond b (pos 1) (pos 0) ≡ pos 0
    go true e = absurd (h ((Decides-eqb x k).0 e))
    go false e = refl

times_one : (a z t : ℤ) → z ≡ pos 1 → t ≡ pos 0 → a *ℤ z +ℤ t ≡ a
times_one a z t e f = ap₂ (λ u v. a *ℤ u +ℤ v) e f ∙ one a
  where
    one : (a : ℤ) → a *ℤ pos 1 +ℤ pos 0 ≡ a
    one a = omega (arith, ints)

times_none : (a z t : ℤ) → z ≡ pos 0 → a *ℤ z +ℤ t ≡ t
times_none a z t e = ap (λ u. a *ℤ u +ℤ t) e ∙ none a t
  where
    none : (a t : ℤ) → a *ℤ pos 0 +ℤ t ≡ t
    none a t = omega (arith, ints)

-- no number stands at a column before all
pub number_before : (x k : ℕ) (ps : List Monomial) → k ≤ x → AreAbove x ps → number_in ps k ≡ pos 0
number_before x k [] h a = refl
number_before x k (p ∷ ps) h a =
    times_none p.factor (only k p.column) (number_in ps k) (only_other k p.column (let g = a.0 in λ e. omega arith)) ∙ number_before x k ps h a.1

number_first : (p : Monomial) (ps : List Monomial) (k : ℕ) → p.column ≡ k → AreAbove p.column ps → number_in (p ∷ ps) k ≡ p.factor
number_first p ps k e a =
    times_one p.factor (only k p.column) (number_in ps k) (ap (only k) e ∙ only_self k) (number_before p.column k ps (omega (arith, e)) a)

pub number_later : (p : Monomial) (ps : List Monomial) (k : ℕ) → (p.column ≡ k → ⊥) → number_in (p ∷ ps) k ≡ number_in ps k
number_later p ps k h = times_none p.factor (only k p.column) (number_in ps k) (only_other k p.column h)

pub same_column : (x k : ℕ) → (x ≡ k) ⊎ (x ≡ k → ⊥)
same_column x k = go (nat_eq x k) refl
  where
    go : (b : Bool) → nat_eq x k ≡ b → (x ≡ k) ⊎ (x ≡ k → ⊥)
    go true e = inl ((Decides-eqb x k).0 e)
    go false e = inr (λ h. cc (e, (Decides-eqb x k).1 h))

-- ---- numbers that fit

pub zero_fits : IsI128 (pos 0)
zero_fits = (omega (arith, ints), omega (arith, ints))

pub numbers_fit : (ps : List Monomial) → AreRising ps → AreInRange ps → (k : ℕ) → IsI128 (number_in ps k)
numbers_fit [] r f k = zero_fits
numbers_fit (p ∷ ps) r f k = elim (same_column p.column k) [
  | inl e ↦ subst IsI128 (sym (number_first p ps k e r.0)) (f 0 p (omega arith))
  | inr h ↦ subst IsI128 (sym (number_later p ps k h)) (numbers_fit ps r.1 (λ i d l. f (suc i) d (omega (arith, l))) k)
]

pub fit_by_numbers : (ps : List Monomial) → AreRising ps → ((k : ℕ) → IsI128 (number_in ps k)) → AreInRange ps
fit_by_numbers [] r f = λ i d l. absurd (omega (arith, l))
fit_by_numbers (p ∷ ps) r f =
    All-cons (λ q. IsI128 q.factor) p ps (subst IsI128 (number_first p ps p.column refl r.0) (f p.column)) (fit_by_numbers ps r.1 rest)
  where
    rest : (k : ℕ) → IsI128 (number_in ps k)
    rest k = elim (same_column p.column k) [
      | inl e ↦ subst IsI128 (sym (number_before p.column k ps (omega (arith, e)) r.0)) zero_fits
      | inr h ↦ subst IsI128 (number_later p ps k h) (f k)
    ]

-- ---- numbers that make the parts

part_zero : (k : ℤ) (x : ℕ) → k ≡ pos 0 → part k x ≡ []
part_zero k x e = ap (λ z. part z x) e

pub part_one : (k : ℤ) (x : ℕ) → (k ≡ pos 0 → ⊥) → part k x ≡ monomial k x ∷ []
part_one k x h = go (is_zero k) refl
  where
    go : (b : Bool) → is_zero k ≡ b → cond b [] (monomial k x ∷ []) ≡ monomial k x ∷ []
    go true e = absurd (h (zero_is k e))
    go false e = refl

pub same_listing : (x y : ℕ → ℤ) (k m : ℕ) → ((j : ℕ) → k ≤ j → x j ≡ y j) → listing x k m ≡ listing y k m
same_listing x y k zero h = refl
same_listing x y k (suc m) h = ap₂ (λ z r. part z k ++ r) (h k (omega arith)) (same_listing x y (suc k) m (λ j l. h j (omega (arith, l))))

-- no column is before k
abbrev IsFrom : ℕ → List Monomial → Type 0
IsFrom k [] = Unit {0}
IsFrom k (p ∷ ps) = k ≤ p.column

from_above : (x : ℕ) (ps : List Monomial) → AreAbove x ps → IsFrom (suc x) ps
from_above x [] a = tt
from_above x (p ∷ ps) a = a.0

module _ (p : Monomial) (ps : List Monomial) (k m : ℕ) (above : AreAbove p.column ps) (some : p.factor ≡ pos 0 → ⊥) where
  listed_here : p.column ≡ k → ps ≡ listing (number_in ps) (suc k) m → p ∷ ps ≡ listing (number_in (p ∷ ps)) k (suc m)
  listed_here e rest =
      let same : listing (number_in (p ∷ ps)) (suc k) m ≡ listing (number_in ps) (suc k) m =
      same_listing (number_in (p ∷ ps)) (number_in ps) (suc k) m (λ j l. number_later p ps j (λ d. omega (arith, d, e, l))) in
      ap (λ t. p ∷ t) (rest ∙ sym same)
      ∙ ap (λ t. t ++ listing (number_in (p ∷ ps)) (suc k) m)
      (sym (part_one (number_in (p ∷ ps) k) k (λ z. some (sym (number_first p ps k e above) ∙ z)) ∙ ap₂ (λ z y. monomial z y ∷ []) (number_first p ps k e above) (sym e)))

  listed_later : k ≤ p.column → (p.column ≡ k → ⊥) → p ∷ ps ≡ listing (number_in (p ∷ ps)) (suc k) m → p ∷ ps ≡ listing (number_in (p ∷ ps)) k (suc m)
  listed_later f g rest =
      let none : number_in (p ∷ ps) k ≡ pos 0 = number_later p ps k g ∙ number_before p.column k ps f above in
      rest ∙ ap (λ t. t ++ listing (number_in (p ∷ ps)) (suc k) m) (sym (part_zero (number_in (p ∷ ps) k) k none))

listed_from : (ps : List Monomial) (k m : ℕ) → AreRising ps → AreNonZero ps → IsFrom k ps → ((j : ℕ) → k + m ≤ j → number_in ps j ≡ pos 0) → ps ≡ listing (number_in ps) k m
listed_from [] k zero r n f h = refl
listed_from [] k (suc m) r n f h = listed_from [] (suc k) m tt tt tt (λ j l. refl)
listed_from (p ∷ ps) k zero r n f h =
    absurd (n.0 (sym (number_first p ps p.column refl r.0) ∙ h p.column (omega (arith, f))))
listed_from (p ∷ ps) k (suc m) r n f h = elim (same_column p.column k) [
  | inl e ↦ listed_here p ps k m r.0 n.0 e
      (listed_from ps (suc k) m r.1 n.1 (subst (λ y. IsFrom (suc y) ps) e (from_above p.column ps r.0))
      (λ j l. sym (number_later p ps j (λ d. omega (arith, d, e, l))) ∙ h j (omega (arith, l))))
  | inr g ↦ listed_later p ps k m r.0 n.0 f g (listed_from (p ∷ ps) (suc k) m r n (omega (arith, f, g)) (λ j l. h j (omega (arith, l))))
]

pub listed : (ps : List Monomial) (m : ℕ) → IsNormal ps → ((j : ℕ) → m ≤ j → number_in ps j ≡ pos 0) → ps ≡ listing (number_in ps) 0 m
listed ps m n h = listed_from ps 0 m n.rising n.non_zero (low ps) (λ j l. h j (omega (arith, l)))
  where
    low : (ps : List Monomial) → IsFrom 0 ps
    low [] = tt
    low (p ∷ ps) = omega arith
