-- One column of two rows and of their sum.
use Rattle.std.proofs.Common.{ℕ, zero, suc, ◌+◌, ◌<◌, ◌≤◌, ◌⊎◌, inl, inr, Bool, true, false, cond, nat_eq, List, [], ◌∷◌, ◌++◌, length, ◌≡◌, refl, sym, ap, ap₂, ◌∙◌, subst, arith}
use Rattle.std.proofs.lemmas.Int.{ints}
use Rattle.std.proofs.lemmas.Bool.Decides.{Decides-eqb}
use Rattle.std.proofs.lemmas.List.Elements.{All-cons}
use lib.IntN.{ℤ, pos, negsuc, ◌+ℤ◌, ◌*ℤ◌}
use lib.Signed.{◌<ℤ◌}
use Rattle.sv_num.specs.Range.{IsI128}
use Rattle.sv_fraction.proofs.Integers.{product_positive, negated_right}
use Rattle.sv_log.specs.LogEntries.{Monomial}
use Rattle.sv_log.specs.LogRows.{monomial, is_zero, times_parts}
use Rattle.sv_row.specs.RowParts.{AreAbove, AreInRange, FitsMultiples, sum_of_multiples, IsNormal}
use Rattle.sv_row.specs.SumSteps.{part, FitsBoth}
use Rattle.sv_row.proofs.Sums.{above_more, own_first, other_first, both_first}
use Rattle.sv_derived.specs.RowSums.{IsSumOf}
use Rattle.sv_derived.specs.Columns.{BeginsAt, TakesAt}

-- ---- numbers

zero_is : (k : ℤ) → is_zero k ≡ true → k ≡ pos 0
zero_is (pos n) e = ap pos ((Decides-eqb n 0).0 e)
zero_is (negsuc n) e = cc e

pub not_zero : (k : ℤ) → (k ≡ pos 0 → ⊥) → is_zero k ≡ false
not_zero k h = go (is_zero k) refl
  where
    go : (b : Bool) → is_zero k ≡ b → b ≡ false
    go true e = absurd (h (zero_is k e))
    go false e = refl

times_zero : (z k : ℤ) → k ≡ pos 0 → z *ℤ k ≡ pos 0
times_zero z k e = let h = ap (λ x. z *ℤ x) e in omega (arith, ints, h)

plus_none : (a b : ℤ) → b ≡ pos 0 → a +ℤ b ≡ a
plus_none a b e = omega (arith, ints, e)

none_plus : (a b : ℤ) → a ≡ pos 0 → a +ℤ b ≡ b
none_plus a b e = omega (arith, ints, e)

-- a positive number times one that isn't 0
product_not_zero : (n l : ℤ) → pos 0 <ℤ n → (l ≡ pos 0 → ⊥) → n *ℤ l ≡ pos 0 → ⊥
product_not_zero n (pos zero) p h e = h refl
product_not_zero n (pos (suc m)) p h e = let q = product_positive n (pos (suc m)) p (omega (arith, ints)) in omega (arith, ints, q, e)
product_not_zero n (negsuc m) p h e =
    let q = product_positive n (pos (suc m)) p (omega (arith, ints)) in
    let r = negated_right n (pos (suc m)) in
    omega (arith, ints, q, r, e)

zero_in_range : (k : ℤ) → k ≡ pos 0 → IsI128 k
zero_in_range k e = (omega (arith, ints, e), omega (arith, ints, e))

-- ---- ranges

tail_in_range : (p : Monomial) (ps : List Monomial) → AreInRange (p ∷ ps) → AreInRange ps
tail_in_range p ps h = λ k d l. h (suc k) d (omega (arith, l))

head_in_range : (p : Monomial) (ps : List Monomial) → AreInRange (p ∷ ps) → IsI128 p.factor
head_in_range p ps h = h 0 p (omega arith)

part_in_range : (k : ℤ) (x : ℕ) (ps : List Monomial) → IsI128 k → AreInRange ps → AreInRange (part k x ++ ps)
part_in_range k x ps f h = go (is_zero k)
  where
    go : (t : Bool) → AreInRange (cond t [] (monomial k x ∷ []) ++ ps)
    go true = h
    go false = All-cons (λ p. IsI128 p.factor) (monomial k x) ps f h

in_range_part : (k : ℤ) (x : ℕ) (ps : List Monomial) → AreInRange (part k x ++ ps) → IsI128 k × AreInRange ps
in_range_part k x ps = go (is_zero k) refl
  where
    go : (t : Bool) → is_zero k ≡ t → AreInRange (cond t [] (monomial k x ∷ []) ++ ps) → IsI128 k × AreInRange ps
    go true e h = (zero_in_range k (zero_is k e), h)
    go false e h = (head_in_range (monomial k x) ps h, tail_in_range (monomial k x) ps h)

-- ---- parts

pub part_zero : (k : ℤ) (x : ℕ) → k ≡ pos 0 → part k x ≡ []
part_zero k x e = ap (λ z. part z x) e

pub part_one : (k : ℤ) (x : ℕ) → (k ≡ pos 0 → ⊥) → part k x ≡ monomial k x ∷ []
part_one k x h = ap (λ b. cond b [] (monomial k x ∷ [])) (not_zero k h)

same_rest : (k : ℤ) (x : ℕ) (ts us : List Monomial) → part k x ++ ts ≡ part k x ++ us → ts ≡ us
same_rest k x ts us = go (is_zero k)
  where
    go : (b : Bool) → cond b [] (monomial k x ∷ []) ++ ts ≡ cond b [] (monomial k x ∷ []) ++ us → ts ≡ us
    go true e = e
    go false e = cc e

-- ---- one column

module _ (m n : ℤ) (pm : pos 0 <ℤ m) (pn : pos 0 <ℤ n) (x : ℕ) (ps qs : List Monomial) (k l : ℤ) (us vs : List Monomial) (a : TakesAt x ps k us) (b : TakesAt x qs l vs) where
  abbrev Own : Type 0
  Own = ((ps ≡ monomial k x ∷ us) × (k ≡ pos 0 → ⊥)) ⊎ ((ps ≡ us) × (k ≡ pos 0))

  abbrev Other : Type 0
  Other = ((qs ≡ monomial l x ∷ vs) × (l ≡ pos 0 → ⊥)) ⊎ ((qs ≡ vs) × (l ≡ pos 0))

  pub column_sum : sum_of_multiples m ps n qs ≡ part (m *ℤ k +ℤ n *ℤ l) x ++ sum_of_multiples m us n vs
  column_sum = go a.is b.is
    where
      go : Own → Other → sum_of_multiples m ps n qs ≡ part (m *ℤ k +ℤ n *ℤ l) x ++ sum_of_multiples m us n vs
      go (inl e) (inl f) = ap₂ (λ y z. sum_of_multiples m y n z) e.0 f.0 ∙ both_first m n (monomial k x) us (monomial l x) vs a.above refl
      go (inl e) (inr f) =
          ap₂ (λ y z. sum_of_multiples m y n z) e.0 f.0 ∙ (own_first m n (monomial k x) us vs a.above b.above
          ∙ ap (λ z. part z x ++ sum_of_multiples m us n vs) (sym (plus_none (m *ℤ k) (n *ℤ l) (times_zero n l f.1))))
      go (inr e) (inl f) =
          ap₂ (λ y z. sum_of_multiples m y n z) e.0 f.0 ∙ (other_first m n us (monomial l x) vs a.above
          ∙ (ap (λ z. z ++ sum_of_multiples m us n vs) (sym (part_one (n *ℤ l) x (product_not_zero n l pn f.1)))
          ∙ ap (λ z. part z x ++ sum_of_multiples m us n vs) (sym (none_plus (m *ℤ k) (n *ℤ l) (times_zero m k e.1)))))
      go (inr e) (inr f) =
          ap₂ (λ y z. sum_of_multiples m y n z) e.0 f.0
          ∙ ap (λ z. z ++ sum_of_multiples m us n vs) (sym (part_zero (m *ℤ k +ℤ n *ℤ l) x (plus_none (m *ℤ k) (n *ℤ l) (times_zero n l f.1) ∙ times_zero m k e.1)))

  own_in_range : Own → (AreInRange (times_parts m ps) → IsI128 (m *ℤ k) × AreInRange (times_parts m us)) × (IsI128 (m *ℤ k) → AreInRange (times_parts m us) → AreInRange (times_parts m ps))
  own_in_range (inl e) = (
    (λ h. let g = subst (λ z. AreInRange (times_parts m z)) e.0 h in
        (head_in_range (monomial (m *ℤ k) x) (times_parts m us) g, tail_in_range (monomial (m *ℤ k) x) (times_parts m us) g)),
    λ i h. subst (λ z. AreInRange (times_parts m z)) (sym e.0) (All-cons (λ p. IsI128 p.factor) (monomial (m *ℤ k) x) (times_parts m us) i h),
  )
  own_in_range (inr e) = (
    (λ h. (zero_in_range (m *ℤ k) (times_zero m k e.1), subst (λ z. AreInRange (times_parts m z)) e.0 h)),
    λ i h. subst (λ z. AreInRange (times_parts m z)) (sym e.0) h,
  )

  other_in_range : Other → (AreInRange (times_parts n qs) → IsI128 (n *ℤ l) × AreInRange (times_parts n vs)) × (IsI128 (n *ℤ l) → AreInRange (times_parts n vs) → AreInRange (times_parts n qs))
  other_in_range (inl e) = (
    (λ h. let g = subst (λ z. AreInRange (times_parts n z)) e.0 h in
        (head_in_range (monomial (n *ℤ l) x) (times_parts n vs) g, tail_in_range (monomial (n *ℤ l) x) (times_parts n vs) g)),
    λ i h. subst (λ z. AreInRange (times_parts n z)) (sym e.0) (All-cons (λ p. IsI128 p.factor) (monomial (n *ℤ l) x) (times_parts n vs) i h),
  )
  other_in_range (inr e) = (
    (λ h. (zero_in_range (n *ℤ l) (times_zero n l e.1), subst (λ z. AreInRange (times_parts n z)) e.0 h)),
    λ i h. subst (λ z. AreInRange (times_parts n z)) (sym e.0) h,
  )

  pub column_fits : FitsMultiples m ps n qs → FitsBoth m k n l × FitsMultiples m us n vs
  column_fits f =
      let own = (own_in_range a.is).0 f.first in
      let other = (other_in_range b.is).0 f.second in
      let sum = in_range_part (m *ℤ k +ℤ n *ℤ l) x (sum_of_multiples m us n vs) (subst AreInRange column_sum f.sum) in
      ((own.0, other.0, sum.0), record { first = own.1; second = other.1; sum = sum.1 })

  pub fits_column : FitsBoth m k n l → FitsMultiples m us n vs → FitsMultiples m ps n qs
  fits_column i f = record {
    first = (own_in_range a.is).1 i.0 f.first;
    second = (other_in_range b.is).1 i.1 f.second;
    sum = subst AreInRange (sym column_sum) (part_in_range (m *ℤ k +ℤ n *ℤ l) x (sum_of_multiples m us n vs) i.2 f.sum);
  }

  -- the column's numbers don't fit
  pub refused : (ts : List Monomial) → (FitsBoth m k n l → ⊥) → IsSumOf m ps n qs ts → ⊥
  refused ts h s = h (column_fits s.fits).0

  -- the sum doesn't begin with the column's number
  pub unlike : (ts : List Monomial) (z : ℤ) → z ≡ m *ℤ k +ℤ n *ℤ l → ((ws : List Monomial) → ts ≡ part z x ++ ws → ⊥) → IsSumOf m ps n qs ts → ⊥
  unlike ts z e h s = h (sum_of_multiples m us n vs) (s.is ∙ (column_sum ∙ ap (λ y. part y x ++ sum_of_multiples m us n vs) (sym e)))

  pub column_on : (ts ws : List Monomial) (z : ℤ) → z ≡ m *ℤ k +ℤ n *ℤ l → ts ≡ part z x ++ ws → IsSumOf m ps n qs ts → IsSumOf m us n vs ws
  column_on ts ws z e g s = record {
    fits = (column_fits s.fits).1;
    is = same_rest z x ws (sum_of_multiples m us n vs) (sym g ∙ (s.is ∙ (column_sum ∙ ap (λ y. part y x ++ sum_of_multiples m us n vs) (sym e))));
  }

  pub column_back : (ts ws : List Monomial) (z : ℤ) → FitsBoth m k n l → z ≡ m *ℤ k +ℤ n *ℤ l → ts ≡ part z x ++ ws → IsSumOf m us n vs ws → IsSumOf m ps n qs ts
  column_back ts ws z i e g s = record {
    fits = fits_column i s.fits;
    is = g ∙ (ap₂ (λ y w. part y x ++ w) e s.is ∙ sym column_sum);
  }

  -- fewer parts are left
  shorter : (ps us : List Monomial) (k : ℤ) → ((ps ≡ monomial k x ∷ us) × (k ≡ pos 0 → ⊥)) ⊎ ((ps ≡ us) × (k ≡ pos 0)) → length us ≤ length ps
  shorter ps us k (inl e) = let h = ap length e.0 in omega (arith, h)
  shorter ps us k (inr e) = let h = ap length e.0 in omega (arith, h)

  taken : (ps us : List Monomial) (k : ℤ) → BeginsAt x ps → AreAbove x us → ((ps ≡ monomial k x ∷ us) × (k ≡ pos 0 → ⊥)) ⊎ ((ps ≡ us) × (k ≡ pos 0)) → length us < length ps
  taken ps us k b u (inl e) = let h = ap length e.0 in omega (arith, h)
  taken [] us k b u (inr e) = absurd b
  taken (p ∷ ps) us k b u (inr e) = absurd (let c = subst (λ z. AreAbove x z) (sym e.0) u in let d = c.0 in omega (arith, b, d))

  pub fewer : BeginsAt x ps ⊎ BeginsAt x qs → length us + length vs < length ps + length qs
  fewer (inl h) = let c = taken ps us k h a.above a.is in let d = shorter qs vs l b.is in omega (arith, c, d)
  fewer (inr h) = let c = taken qs vs l h b.above b.is in let d = shorter ps us k a.is in omega (arith, c, d)

-- ---- the end

pub sum_of_none : (m n : ℤ) (ts : List Monomial) → ts ≡ [] → IsSumOf m [] n [] ts
sum_of_none m n ts e = record {
  fits = record { first = λ k d l. absurd (omega (arith, l)); second = λ k d l. absurd (omega (arith, l)); sum = λ k d l. absurd (omega (arith, l)) };
  is = e;
}

-- ---- what stands at a column

pub takes_none : (x : ℕ) → TakesAt x [] (pos 0) []
takes_none x = record { normal = record { rising = tt; non_zero = tt }; above = tt; is = inr (refl, refl) }

pub takes_first : (x : ℕ) (p : Monomial) (ps : List Monomial) → IsNormal (p ∷ ps) → p.column ≡ x → TakesAt x (p ∷ ps) p.factor ps
takes_first x p ps h e = record {
  normal = record { rising = h.rising.1; non_zero = h.non_zero.1 };
  above = subst (λ y. AreAbove y ps) e h.rising.0;
  is = inl (ap (λ y. monomial p.factor y ∷ ps) e, h.non_zero.0);
}

pub takes_later : (x : ℕ) (p : Monomial) (ps : List Monomial) → IsNormal (p ∷ ps) → x ≤ p.column → (p.column ≡ x → ⊥) → TakesAt x (p ∷ ps) (pos 0) (p ∷ ps)
takes_later x p ps h l e =
    let lt : x < p.column = low (nat_eq p.column x) refl in
    record {
      normal = h;
      above = (lt, above_more x p.column ps lt h.rising.0);
      is = inr (refl, refl);
    }
  where
    low : (b : Bool) → nat_eq p.column x ≡ b → x < p.column
    low true t = absurd (e ((Decides-eqb p.column x).0 t))
    low false t = let apart : p.column ≡ x → ⊥ = e in omega arith
