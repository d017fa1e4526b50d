-- Working out a row at places, and its bound.
use Rattle.std.proofs.Common.{ℕ, inl, inr, List, [], ◌∷◌, ◌++◌, length, ◌≡◌, refl, sym, ap, ◌∙◌, subst, arith}
use Rattle.std.proofs.lemmas.List.{map-append, same_from_push}
use Rattle.std.specs.Prelude.{Option, None, Some, IsSome, MatchOption}
use lib.IntN.{ℤ, pos}
use Rattle.sv_log.specs.LogEntries.{Monomial}
use Rattle.sv_log.specs.LogRows.{plain_monomial, monomial}
use Rattle.sv_row.specs.RowParts.{monomials}
use Rattle.sv_fraction.specs.Fractions.{Ratio, ratio, FitsSum, IsSum, IsBound, ExceedsBound}
use Rattle.sv_point.specs.NearestPoints.{IsRowOf, IsWorth}
use Rattle.sv_point.specs.PointLaws.{ArePositive, IsBoundOf}
use Rattle.sv_point.proofs.Worths.{worth_exact}
use Rattle.sv_cert.specs.declared.log.Row.{Row as CodeRow}
use Rattle.sv_cert.specs.PlainLogs.{plain_row}
use Rattle.sv_lin.specs.Eliminations.{ExceedsWorth}
use Rattle.sv_lin.specs.Placing.{ExceedsAt}
use Rattle.sv_lin.proofs.Combining.{not_empty}

pub nothing_worked : (at : ℕ → Ratio) (f : Ratio) (ps : List (ℤ × ℕ)) → length ps ≡ 0 → IsWorth at f (monomials ps) f
nothing_worked at f [] e = refl
nothing_worked at f (p ∷ ps) e = absurd (omega (arith, e))

pub worked_stops : (at : ℕ → Ratio) (f v : Ratio) (k : ℤ) (ps rest : List (ℤ × ℕ)) (p : ℤ × ℕ) → ps ≡ p ∷ rest → k ≡ p.0 → v ≡ at p.1 → (FitsSum f k v → ⊥) → ExceedsWorth at f (monomials ps)
worked_stops at f v k ps rest p e ek ev n =
    subst (λ z. ExceedsWorth at f (monomials z)) (sym e) (inl (λ h. n (subst (λ z. FitsSum f z v) (sym ek) (subst (FitsSum f p.0) (sym ev) h))))

pub worked_more : (at : ℕ → Ratio) (f v h : Ratio) (k : ℤ) (ps rest : List (ℤ × ℕ)) (p : ℤ × ℕ) (o : Option Ratio) → ps ≡ p ∷ rest → k ≡ p.0 → v ≡ at p.1 → IsSum f k v h
    → MatchOption o (ExceedsWorth at h (monomials rest)) (λ g. IsWorth at h (monomials rest) g) → MatchOption o (ExceedsWorth at f (monomials ps)) (λ g. IsWorth at f (monomials ps) g)
worked_more at f v h k ps rest p o e ek ev s m =
    subst (λ z. MatchOption o (ExceedsWorth at f (monomials z)) (λ g. IsWorth at f (monomials z) g)) (sym e) (go o m)
  where
    sum : IsSum f p.0 (at p.1) h
    sum = subst (λ z. IsSum f z (at p.1) h) ek (subst (λ z. IsSum f k z h) ev s)

    go : (o : Option Ratio) → MatchOption o (ExceedsWorth at h (monomials rest)) (λ g. IsWorth at h (monomials rest) g) → MatchOption o (ExceedsWorth at f (monomials (p ∷ rest))) (λ g. IsWorth at f (monomials (p ∷ rest)) g)
    go None m = inr (h, subst (λ z. IsSum f z (at p.1) h) ek (subst (λ z. IsSum f k z h) ev s), m)
    go (Some g) m = (h, subst (λ z. IsSum f z (at p.1) h) ek (subst (λ z. IsSum f k z h) ev s), m)

pub no_sum : (o : Option Ratio) (F : Type 0) → o ≡ None → (F → IsSome o) → F → ⊥
no_sum o F e h f = let i = subst IsSome e (h f) in cc i

-- ---- the bound

pub no_row : (r : CodeRow) (xs : List (ℤ × ℕ)) (x : ℕ) (k : ℤ) → xs ≡ r.parts → length xs ≡ 0 → IsRowOf x k (plain_row r) → ⊥
no_row r xs x k e h t = not_empty r.parts t.lows (monomial k x) (ap length (sym e) ∙ h) t.is

split_is : (r : CodeRow) (xs rest : List (ℤ × ℕ)) (p : ℤ × ℕ) (x : ℕ) (k : ℤ) → xs ≡ r.parts → xs ≡ rest ++ p ∷ [] → (t : IsRowOf x k (plain_row r)) → (monomials rest ≡ t.lows) × (p.0 ≡ k)
split_is r xs rest p x k e f t =
    let d = same_from_push (monomials rest) t.lows (plain_monomial p) (monomial k x) (sym (map-append plain_monomial rest (p ∷ [])) ∙ (sym (ap monomials f) ∙ (ap monomials e ∙ t.is))) in
    (d.0, ap (λ (q : Monomial). q.factor) d.1)

pub exceeds_worth : (at : ℕ → Ratio) (r : CodeRow) (xs rest : List (ℤ × ℕ)) (p : ℤ × ℕ) (j : ℤ) → xs ≡ r.parts → xs ≡ rest ++ p ∷ [] → j ≡ r.constant → ExceedsWorth at (ratio j (pos 1)) (monomials rest)
    → (x : ℕ) (k : ℤ) → IsRowOf x k (plain_row r) → ExceedsAt at x (plain_row r)
exceeds_worth at r xs rest p j e f ej h x k t =
    let d = split_is r xs rest p x k e f t in (
      record {
        column = x;
        factor = k;
        row_of = t;
        exceeds = inl (subst (ExceedsWorth at (ratio r.constant (pos 1))) d.0 (subst (λ z. ExceedsWorth at (ratio z (pos 1)) (monomials rest)) ej h));
      },
      refl,
    )

pub bound_made : (at : ℕ → Ratio) (r : CodeRow) (xs rest : List (ℤ × ℕ)) (p : ℤ × ℕ) (j l : ℤ) (f : Ratio) (o : Option Ratio) → ArePositive at → xs ≡ r.parts → xs ≡ rest ++ p ∷ [] → j ≡ r.constant → l ≡ p.0
    → IsWorth at (ratio j (pos 1)) (monomials rest) f → MatchOption o (ExceedsBound f l) (λ g. IsBound f l g)
    → (x : ℕ) (k : ℤ) → IsRowOf x k (plain_row r) → MatchOption o (ExceedsAt at x (plain_row r)) (λ g. IsBoundOf at x k (plain_row r) g)
bound_made at r xs rest p j l f o pos_at e g ej el w m x k t =
    go o (subst (λ z. MatchOption o (ExceedsBound f z) (λ h. IsBound f z h)) (el ∙ (split_is r xs rest p x k e g t).1) m)
    (subst (λ ps. IsWorth at (ratio r.constant (pos 1)) ps f) (split_is r xs rest p x k e g t).0 (subst (λ z. IsWorth at (ratio z (pos 1)) (monomials rest) f) ej w))
  where
    go : (o : Option Ratio) → MatchOption o (ExceedsBound f k) (λ h. IsBound f k h) → IsWorth at (ratio r.constant (pos 1)) t.lows f → MatchOption o (ExceedsAt at x (plain_row r)) (λ h. IsBoundOf at x k (plain_row r) h)
    go None m w = (record { column = x; factor = k; row_of = t; exceeds = inr (f, w, m) }, refl)
    go (Some h) m w = let c = worth_exact at (plain_row r) x k t f pos_at w in record { row = t; rest = f; positive = c.0; worth_is = c.1; bound = m }
