-- The sum of two multiples, column by column.
use Rattle.std.proofs.Common.{ℕ, suc, ◌<◌, Bool, true, false, cond, nat_eq, nat_lt, List, [], ◌∷◌, ◌++◌, ◌≡◌, refl, sym, ap, ap₂, ◌∙◌, subst, arith}
use Rattle.std.proofs.lemmas.Int.{ints}
use Rattle.std.proofs.lemmas.Bool.Decides.{Decides-eqb, Decides-ltb}
use Rattle.std.proofs.lemmas.List.{append_assoc}
use Rattle.std.proofs.lemmas.List.Elements.{All-cons}
use lib.IntN.{ℤ, pos, negsuc, ◌+ℤ◌, ◌*ℤ◌}
use Rattle.sv_num.specs.Range.{IsI128}
use Rattle.sv_log.specs.LogEntries.{Monomial}
use Rattle.sv_log.specs.LogRows.{monomial, is_zero, with_part, with_parts, times_parts}
use Rattle.sv_row.specs.RowParts.{AreAbove, AreInRange, FitsMultiples, sum_of_multiples}
use Rattle.sv_row.specs.SumSteps.{part, AddsParts, FitsBoth}

-- ---- columns

unequal : (x y : ℕ) → (x ≡ y → ⊥) → nat_eq x y ≡ false
unequal x y h = go (nat_eq x y) refl
  where
    go : (b : Bool) → nat_eq x y ≡ b → b ≡ false
    go true e = absurd (h ((Decides-eqb x y).0 e))
    go false e = refl

less : (x y : ℕ) → x < y → nat_lt x y ≡ true
less x y h = (Decides-ltb x y).1 h

not_less : (x y : ℕ) → y < x → nat_lt x y ≡ false
not_less x y h = go (nat_lt x y) refl
  where
    go : (b : Bool) → nat_lt x y ≡ b → b ≡ false
    go true e = absurd (let d = (Decides-ltb x y).0 e in omega arith)
    go false e = refl

pub above_more : (x y : ℕ) (ps : List Monomial) → x < y → AreAbove y ps → AreAbove x ps
above_more x y [] h a = tt
above_more x y (p ∷ ps) h a = (let g = a.0 in omega arith, above_more x y ps h a.1)

pub above_times : (x : ℕ) (m : ℤ) (ps : List Monomial) → AreAbove x ps → AreAbove x (times_parts m ps)
above_times x m [] a = tt
above_times x m (p ∷ ps) a = (a.0, above_times x m ps a.1)

above_part : (c : ℕ) (k : ℤ) (x : ℕ) (ps : List Monomial) → c < x → AreAbove c ps → AreAbove c (with_part k x ps)
above_part c k x [] h b = go (is_zero k)
  where
    go : (t : Bool) → AreAbove c (cond t [] (monomial k x ∷ []))
    go true = tt
    go false = (h, tt)
above_part c k x (p ∷ ps) h b = here (nat_eq x p.column) (above_part c k x ps h b.1)
  where
    same : (t : Bool) → AreAbove c (cond t ps (monomial (k +ℤ p.factor) x ∷ ps))
    same true = b.1
    same false = (h, b.1)

    front : (t : Bool) → AreAbove c (cond t (p ∷ ps) (monomial k x ∷ p ∷ ps))
    front true = b
    front false = (h, b)

    lesser : (t : Bool) → AreAbove c (with_part k x ps) → AreAbove c (cond t (cond (is_zero k) (p ∷ ps) (monomial k x ∷ p ∷ ps)) (p ∷ with_part k x ps))
    lesser true g = front (is_zero k)
    lesser false g = (b.0, g)

    here : (t : Bool) → AreAbove c (with_part k x ps) → AreAbove c (cond t (cond (is_zero (k +ℤ p.factor)) ps (monomial (k +ℤ p.factor) x ∷ ps)) (cond (nat_lt x p.column) (cond (is_zero k) (p ∷ ps) (monomial k x ∷ p ∷ ps)) (p ∷ with_part k x ps)))
    here true g = same (is_zero (k +ℤ p.factor))
    here false g = lesser (nat_lt x p.column) g

pub above_parts : (c : ℕ) (ps qs : List Monomial) → AreAbove c ps → AreAbove c qs → AreAbove c (with_parts ps qs)
above_parts c [] qs a b = b
above_parts c (p ∷ ps) qs a b = above_part c p.factor p.column (with_parts ps qs) a.0 (above_parts c ps qs a.1 b)

-- a column below all others
pub front : (k : ℤ) (x : ℕ) (ps : List Monomial) → AreAbove x ps → with_part k x ps ≡ part k x ++ ps
front k x [] a = go (is_zero k)
  where
    go : (t : Bool) → cond t [] (monomial k x ∷ []) ≡ cond t [] (monomial k x ∷ []) ++ []
    go true = refl
    go false = refl
front k x (p ∷ ps) a =
    ap₂ (λ t u. cond t (cond (is_zero (k +ℤ p.factor)) ps (monomial (k +ℤ p.factor) x ∷ ps)) (cond u (cond (is_zero k) (p ∷ ps) (monomial k x ∷ p ∷ ps)) (p ∷ with_part k x ps)))
    (unequal x p.column (let h = a.0 in λ e. omega arith)) (less x p.column a.0)
    ∙ go (is_zero k)
  where
    go : (t : Bool) → cond t (p ∷ ps) (monomial k x ∷ p ∷ ps) ≡ cond t [] (monomial k x ∷ []) ++ (p ∷ ps)
    go true = refl
    go false = refl

-- a column above the first
past : (k : ℤ) (x : ℕ) (q : Monomial) (qs : List Monomial) → q.column < x → with_part k x (q ∷ qs) ≡ q ∷ with_part k x qs
past k x q qs h =
    ap₂ (λ t u. cond t (cond (is_zero (k +ℤ q.factor)) qs (monomial (k +ℤ q.factor) x ∷ qs)) (cond u (cond (is_zero k) (q ∷ qs) (monomial k x ∷ q ∷ qs)) (q ∷ with_part k x qs)))
    (unequal x q.column (λ e. omega arith)) (not_less x q.column h)

pub past_all : (ps : List Monomial) (q : Monomial) (qs : List Monomial) → AreAbove q.column ps → with_parts ps (q ∷ qs) ≡ q ∷ with_parts ps qs
past_all [] q qs a = refl
past_all (p ∷ ps) q qs a = ap (with_part p.factor p.column) (past_all ps q qs a.1) ∙ past p.factor p.column q (with_parts ps qs) a.0

-- the column of the first
pub onto : (k : ℤ) (x : ℕ) (q : Monomial) (qs : List Monomial) → x ≡ q.column → with_part k x (q ∷ qs) ≡ part (k +ℤ q.factor) x ++ qs
onto k x q qs e =
    ap (λ t. cond t (cond (is_zero (k +ℤ q.factor)) qs (monomial (k +ℤ q.factor) x ∷ qs)) (cond (nat_lt x q.column) (cond (is_zero k) (q ∷ qs) (monomial k x ∷ q ∷ qs)) (q ∷ with_part k x qs)))
    ((Decides-eqb x q.column).1 e)
    ∙ go (is_zero (k +ℤ q.factor))
  where
    go : (t : Bool) → cond t qs (monomial (k +ℤ q.factor) x ∷ qs) ≡ cond t [] (monomial (k +ℤ q.factor) x ∷ []) ++ qs
    go true = refl
    go false = refl

module _ (m n : ℤ) where
  pub own_first : (p : Monomial) (ps qs : List Monomial) → AreAbove p.column ps → AreAbove p.column qs
      → sum_of_multiples m (p ∷ ps) n qs ≡ part (m *ℤ p.factor) p.column ++ sum_of_multiples m ps n qs
  own_first p ps qs a b =
      front (m *ℤ p.factor) p.column (sum_of_multiples m ps n qs)
      (above_parts p.column (times_parts m ps) (times_parts n qs) (above_times p.column m ps a) (above_times p.column n qs b))

  pub other_first : (ps : List Monomial) (q : Monomial) (qs : List Monomial) → AreAbove q.column ps
      → sum_of_multiples m ps n (q ∷ qs) ≡ monomial (n *ℤ q.factor) q.column ∷ sum_of_multiples m ps n qs
  other_first ps q qs a = past_all (times_parts m ps) (monomial (n *ℤ q.factor) q.column) (times_parts n qs) (above_times q.column m ps a)

  pub both_first : (p : Monomial) (ps : List Monomial) (q : Monomial) (qs : List Monomial) → AreAbove p.column ps → p.column ≡ q.column
      → sum_of_multiples m (p ∷ ps) n (q ∷ qs) ≡ part (m *ℤ p.factor +ℤ n *ℤ q.factor) p.column ++ sum_of_multiples m ps n qs
  both_first p ps q qs a e =
      ap (with_part (m *ℤ p.factor) p.column) (other_first ps q qs (subst (λ x. AreAbove x ps) e a))
      ∙ onto (m *ℤ p.factor) p.column (monomial (n *ℤ q.factor) q.column) (sum_of_multiples m ps n qs) e

-- ---- ranges

tail_in_range : (p : Monomial) (ps : List Monomial) → AreInRange (p ∷ ps) → AreInRange ps
tail_in_range p ps h = λ k d l. h (suc k) d (omega (arith, l))

head_in_range : (p : Monomial) (ps : List Monomial) → AreInRange (p ∷ ps) → IsI128 p.factor
head_in_range p ps h = h 0 p (omega arith)

zero_in_range : (k : ℤ) → is_zero k ≡ true → IsI128 k
zero_in_range (pos n) e = let d = (Decides-eqb n 0).0 e in (omega (arith, ints), omega (arith, ints))
zero_in_range (negsuc n) e = cc e

part_in_range : (k : ℤ) (x : ℕ) (ps : List Monomial) → IsI128 k → AreInRange ps → AreInRange (part k x ++ ps)
part_in_range k x ps f h = go (is_zero k)
  where
    go : (t : Bool) → AreInRange (cond t [] (monomial k x ∷ []) ++ ps)
    go true = h
    go false = All-cons (λ p. IsI128 p.factor) (monomial k x) ps f h

in_range_part : (k : ℤ) (x : ℕ) (ps : List Monomial) → AreInRange (part k x ++ ps) → IsI128 k × AreInRange ps
in_range_part k x ps = go (is_zero k) refl
  where
    go : (t : Bool) → is_zero k ≡ t → AreInRange (cond t [] (monomial k x ∷ []) ++ ps) → IsI128 k × AreInRange ps
    go true e h = (zero_in_range k e, h)
    go false e h = (head_in_range (monomial k x) ps h, tail_in_range (monomial k x) ps h)

added : {A : Type 0} (old mid new xs ys zs : List A) → mid ≡ old ++ xs → new ≡ mid ++ ys → zs ≡ xs ++ ys → new ≡ old ++ zs
added old mid new xs ys zs e f g = f ∙ (ap (λ l. l ++ ys) e ∙ (append_assoc old xs ys ∙ ap (λ l. old ++ l) (sym g)))

-- ---- steps

module _ (m n : ℤ) where
  pub nothing : (old new : List Monomial) → new ≡ old → AddsParts (FitsMultiples m [] n []) [] old new true
  nothing old new e = (record { first = λ k d l. absurd (omega (arith, l)); second = λ k d l. absurd (omega (arith, l)); sum = λ k d l. absurd (omega (arith, l)) }, e ∙ sym (empty old))
    where
      empty : (l : List Monomial) → l ++ [] ≡ l
      empty [] = refl
      empty (p ∷ ps) = ap (λ z. p ∷ z) (empty ps)

  module _ (p : Monomial) (ps qs : List Monomial) (a : AreAbove p.column ps) (b : AreAbove p.column qs) where
    own_fit : FitsMultiples m (p ∷ ps) n qs → IsI128 (m *ℤ p.factor) × FitsMultiples m ps n qs
    own_fit f = (
      head_in_range (monomial (m *ℤ p.factor) p.column) (times_parts m ps) f.first,
      record {
        first = tail_in_range (monomial (m *ℤ p.factor) p.column) (times_parts m ps) f.first;
        second = f.second;
        sum = (in_range_part (m *ℤ p.factor) p.column (sum_of_multiples m ps n qs) (subst AreInRange (own_first m n p ps qs a b) f.sum)).1;
      },
    )

    fit_own : IsI128 (m *ℤ p.factor) → FitsMultiples m ps n qs → FitsMultiples m (p ∷ ps) n qs
    fit_own i f = record {
      first = All-cons (λ p. IsI128 p.factor) (monomial (m *ℤ p.factor) p.column) (times_parts m ps) i f.first;
      second = f.second;
      sum = subst AreInRange (sym (own_first m n p ps qs a b)) (part_in_range (m *ℤ p.factor) p.column (sum_of_multiples m ps n qs) i f.sum);
    }

    pub own_refused : (old new : List Monomial) → (IsI128 (m *ℤ p.factor) → ⊥) → AddsParts (FitsMultiples m (p ∷ ps) n qs) (sum_of_multiples m (p ∷ ps) n qs) old new false
    own_refused old new r = λ f. r (own_fit f).0

    pub own_added : (old mid new : List Monomial) (fits : Bool) → IsI128 (m *ℤ p.factor) → mid ≡ old ++ part (m *ℤ p.factor) p.column
        → AddsParts (FitsMultiples m ps n qs) (sum_of_multiples m ps n qs) mid new fits
        → AddsParts (FitsMultiples m (p ∷ ps) n qs) (sum_of_multiples m (p ∷ ps) n qs) old new fits
    own_added old mid new true i e h = (fit_own i h.0, added old mid new (part (m *ℤ p.factor) p.column) (sum_of_multiples m ps n qs) (sum_of_multiples m (p ∷ ps) n qs) e h.1 (own_first m n p ps qs a b))
    own_added old mid new false i e h = λ f. h (own_fit f).1

  module _ (ps : List Monomial) (q : Monomial) (qs : List Monomial) (a : AreAbove q.column ps) where
    other_fit : FitsMultiples m ps n (q ∷ qs) → IsI128 (n *ℤ q.factor) × FitsMultiples m ps n qs
    other_fit f = (
      head_in_range (monomial (n *ℤ q.factor) q.column) (times_parts n qs) f.second,
      record {
        first = f.first;
        second = tail_in_range (monomial (n *ℤ q.factor) q.column) (times_parts n qs) f.second;
        sum = tail_in_range (monomial (n *ℤ q.factor) q.column) (sum_of_multiples m ps n qs) (subst AreInRange (other_first m n ps q qs a) f.sum);
      },
    )

    fit_other : IsI128 (n *ℤ q.factor) → FitsMultiples m ps n qs → FitsMultiples m ps n (q ∷ qs)
    fit_other i f = record {
      first = f.first;
      second = All-cons (λ p. IsI128 p.factor) (monomial (n *ℤ q.factor) q.column) (times_parts n qs) i f.second;
      sum = subst AreInRange (sym (other_first m n ps q qs a)) (All-cons (λ p. IsI128 p.factor) (monomial (n *ℤ q.factor) q.column) (sum_of_multiples m ps n qs) i f.sum);
    }

    pub other_refused : (old new : List Monomial) → (IsI128 (n *ℤ q.factor) → ⊥) → AddsParts (FitsMultiples m ps n (q ∷ qs)) (sum_of_multiples m ps n (q ∷ qs)) old new false
    other_refused old new r = λ f. r (other_fit f).0

    pub other_added : (old mid new : List Monomial) (fits : Bool) → IsI128 (n *ℤ q.factor) → mid ≡ old ++ monomial (n *ℤ q.factor) q.column ∷ []
        → AddsParts (FitsMultiples m ps n qs) (sum_of_multiples m ps n qs) mid new fits
        → AddsParts (FitsMultiples m ps n (q ∷ qs)) (sum_of_multiples m ps n (q ∷ qs)) old new fits
    other_added old mid new true i e h = (fit_other i h.0, added old mid new (monomial (n *ℤ q.factor) q.column ∷ []) (sum_of_multiples m ps n qs) (sum_of_multiples m ps n (q ∷ qs)) e h.1 (other_first m n ps q qs a))
    other_added old mid new false i e h = λ f. h (other_fit f).1

  module _ (p : Monomial) (ps : List Monomial) (q : Monomial) (qs : List Monomial) (a : AreAbove p.column ps) (s : p.column ≡ q.column) where
    both_fit : FitsMultiples m (p ∷ ps) n (q ∷ qs) → FitsBoth m p.factor n q.factor × FitsMultiples m ps n qs
    both_fit f =
        let r = in_range_part (m *ℤ p.factor +ℤ n *ℤ q.factor) p.column (sum_of_multiples m ps n qs) (subst AreInRange (both_first m n p ps q qs a s) f.sum) in (
          (head_in_range (monomial (m *ℤ p.factor) p.column) (times_parts m ps) f.first, head_in_range (monomial (n *ℤ q.factor) q.column) (times_parts n qs) f.second, r.0),
          record {
            first = tail_in_range (monomial (m *ℤ p.factor) p.column) (times_parts m ps) f.first;
            second = tail_in_range (monomial (n *ℤ q.factor) q.column) (times_parts n qs) f.second;
            sum = r.1;
          },
        )

    fit_both : FitsBoth m p.factor n q.factor → FitsMultiples m ps n qs → FitsMultiples m (p ∷ ps) n (q ∷ qs)
    fit_both i f = record {
      first = All-cons (λ p. IsI128 p.factor) (monomial (m *ℤ p.factor) p.column) (times_parts m ps) i.0 f.first;
      second = All-cons (λ p. IsI128 p.factor) (monomial (n *ℤ q.factor) q.column) (times_parts n qs) i.1 f.second;
      sum = subst AreInRange (sym (both_first m n p ps q qs a s)) (part_in_range (m *ℤ p.factor +ℤ n *ℤ q.factor) p.column (sum_of_multiples m ps n qs) i.2 f.sum);
    }

    pub both_refused : (old new : List Monomial) → (FitsBoth m p.factor n q.factor → ⊥) → AddsParts (FitsMultiples m (p ∷ ps) n (q ∷ qs)) (sum_of_multiples m (p ∷ ps) n (q ∷ qs)) old new false
    both_refused old new r = λ f. r (both_fit f).0

    pub both_added : (old mid new : List Monomial) (fits : Bool) → FitsBoth m p.factor n q.factor → mid ≡ old ++ part (m *ℤ p.factor +ℤ n *ℤ q.factor) p.column
        → AddsParts (FitsMultiples m ps n qs) (sum_of_multiples m ps n qs) mid new fits
        → AddsParts (FitsMultiples m (p ∷ ps) n (q ∷ qs)) (sum_of_multiples m (p ∷ ps) n (q ∷ qs)) old new fits
    both_added old mid new true i e h = (fit_both i h.0, added old mid new (part (m *ℤ p.factor +ℤ n *ℤ q.factor) p.column) (sum_of_multiples m ps n qs) (sum_of_multiples m (p ∷ ps) n (q ∷ qs)) e h.1 (both_first m n p ps q qs a s))
    both_added old mid new false i e h = λ f. h (both_fit f).1
