-- A combination and a division have no new column.
use Rattle.std.proofs.Common.{ℕ, zero, suc, ◌<◌, Bool, true, false, cond, nat_eq, nat_lt, List, [], ◌∷◌, ◌++◌, refl, sym, ap, subst, arith}
use Rattle.std.specs.List.{Contains, All}
use lib.IntN.{ℤ, ◌+ℤ◌}
use Rattle.sv_log.specs.LogEntries.{Monomial, Row, columns}
use Rattle.sv_log.specs.LogRows.{monomial, is_zero, with_part, with_parts, times_parts, IsCombined, IsDivided}
use Rattle.sv_point.specs.NearestPoints.{AreBelow}
use Rattle.sv_lin.specs.UnderWay.{EachColumn}

-- ---- columns

module _ (P : ℕ → Type 0) where
  each_part : (k : ℤ) (x : ℕ) (ps : List Monomial) → P x → EachColumn P ps → EachColumn P (with_part k x ps)
  each_part k x [] h b = go (is_zero k)
    where
      go : (t : Bool) → EachColumn P (cond t [] (monomial k x ∷ []))
      go true = tt
      go false = (h, tt)
  each_part k x (p ∷ ps) h b = here (nat_eq x p.column) (each_part k x ps h b.1)
    where
      same : (t : Bool) → EachColumn P (cond t ps (monomial (k +ℤ p.factor) x ∷ ps))
      same true = b.1
      same false = (h, b.1)

      front : (t : Bool) → EachColumn P (cond t (p ∷ ps) (monomial k x ∷ p ∷ ps))
      front true = b
      front false = (h, b)

      less : (t : Bool) → EachColumn P (with_part k x ps) → EachColumn P (cond t (cond (is_zero k) (p ∷ ps) (monomial k x ∷ p ∷ ps)) (p ∷ with_part k x ps))
      less true g = front (is_zero k)
      less false g = (b.0, g)

      here : (t : Bool) → EachColumn P (with_part k x ps) → EachColumn P (cond t (cond (is_zero (k +ℤ p.factor)) ps (monomial (k +ℤ p.factor) x ∷ ps)) (cond (nat_lt x p.column) (cond (is_zero k) (p ∷ ps) (monomial k x ∷ p ∷ ps)) (p ∷ with_part k x ps)))
      here true g = same (is_zero (k +ℤ p.factor))
      here false g = less (nat_lt x p.column) g

  each_sum : (ps qs : List Monomial) → EachColumn P ps → EachColumn P qs → EachColumn P (with_parts ps qs)
  each_sum [] qs a b = b
  each_sum (p ∷ ps) qs a b = each_part p.factor p.column (with_parts ps qs) a.0 (each_sum ps qs a.1 b)

  each_times : (k : ℤ) (ps : List Monomial) → EachColumn P ps → EachColumn P (times_parts k ps)
  each_times k [] a = tt
  each_times k (p ∷ ps) a = (a.0, each_times k ps a.1)

  each_quotient : (k : ℤ) (ps : List Monomial) → EachColumn P (times_parts k ps) → EachColumn P ps
  each_quotient k [] a = tt
  each_quotient k (p ∷ ps) a = (a.0, each_quotient k ps a.1)

  pub each_combined : (m n : ℤ) (r s t : Row) → IsCombined m r n s t → EachColumn P r.parts → EachColumn P s.parts → EachColumn P t.parts
  each_combined m n r s t c a b =
      subst (EachColumn P) (sym (ap (λ (u : Row). u.parts) c.is)) (each_sum (times_parts m r.parts) (times_parts n s.parts) (each_times m r.parts a) (each_times n s.parts b))

  pub each_divided : (d : ℤ) (r t : Row) → IsDivided d r t → EachColumn P r.parts → EachColumn P t.parts
  each_divided d r t h a = each_quotient d t.parts (subst (EachColumn P) h.parts a)

  pub each_last : (lows : List Monomial) (p : Monomial) → EachColumn P (lows ++ p ∷ []) → P p.column
  each_last [] p a = a.0
  each_last (q ∷ lows) p a = each_last lows p a.1

pub each_weaker : (P Q : ℕ → Type 0) → ((x : ℕ) → P x → Q x) → (ps : List Monomial) → EachColumn P ps → EachColumn Q ps
each_weaker P Q f [] a = tt
each_weaker P Q f (p ∷ ps) a = (f p.column a.0, each_weaker P Q f ps a.1)

pub below_each : (c : ℕ) (ps : List Monomial) → EachColumn (λ x. x < c) ps → AreBelow c ps
below_each c [] a = tt
below_each c (p ∷ ps) a = (a.0, below_each c ps a.1)

pub each_below : (c : ℕ) (ps : List Monomial) → AreBelow c ps → EachColumn (λ x. x < c) ps
each_below c [] a = tt
each_below c (p ∷ ps) a = (a.0, each_below c ps a.1)

pub all_columns : (P : ℕ → Type 0) (ps : List Monomial) → EachColumn P ps → All P (columns ps)
all_columns P [] a k d l = absurd (omega (arith, l))
all_columns P (p ∷ ps) a zero d l = a.0
all_columns P (p ∷ ps) a (suc k) d l = all_columns P ps a.1 k d (omega (arith, l))

-- each column of a list of parts is among its columns
pub each_own : (ps : List Monomial) → EachColumn (λ x. Contains (columns ps) x) ps
each_own [] = tt
each_own (p ∷ ps) = ((0, omega arith, refl), each_weaker (λ x. Contains (columns ps) x) (λ x. Contains (p.column ∷ columns ps) x) (λ x c. (suc c.0, let l = c.1 in omega (arith, l), c.2)) ps (each_own ps))
