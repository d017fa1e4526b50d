-- The last pair of a row's parts is the greatest column's.
use Rattle.std.proofs.Common.{ℕ, ◌<◌, List, [], ◌∷◌, ◌++◌, ◌≡◌, sym, ap, ap₂, ◌∙◌, subst}
use Rattle.std.proofs.lemmas.List.{map-append}
use lib.IntN.{ℤ}
use Rattle.sv_log.specs.LogEntries.{Monomial}
use Rattle.sv_log.specs.LogRows.{plain_monomial, monomial}
use Rattle.sv_point.specs.NearestPoints.{AreBelow, IsRowOf}
use Rattle.sv_row.specs.RowParts.{monomials, AreAbove, AreRising}
use Rattle.sv_cert.specs.declared.log.Row.{Row as CodeRow}
use Rattle.sv_cert.specs.PlainLogs.{plain_row}
use Rattle.sv_lin.specs.Eliminations.{IsNormalRow}

above_last : (x : ℕ) (lows : List Monomial) (p : Monomial) → AreAbove x (lows ++ p ∷ []) → x < p.column
above_last x [] p a = a.0
above_last x (q ∷ lows) p a = above_last x lows p a.1

below_last : (lows : List Monomial) (p : Monomial) → AreRising (lows ++ p ∷ []) → AreBelow p.column lows
below_last [] p a = tt
below_last (q ∷ lows) p a = (above_last q.column lows p a.0, below_last lows p a.1)

pub row_at_last : (r : CodeRow) (xs rest : List (ℤ × ℕ)) (p : ℤ × ℕ) (k : ℤ) (x : ℕ) → xs ≡ r.parts → xs ≡ rest ++ p ∷ [] → p.1 ≡ x → k ≡ p.0 → IsNormalRow (plain_row r) → IsRowOf x k (plain_row r)
row_at_last r xs rest p k x e f c g h =
    let is : monomials r.parts ≡ monomials rest ++ monomial k x ∷ []
    = ap monomials (sym e ∙ f) ∙ (map-append plain_monomial rest (p ∷ []) ∙ ap (λ z. monomials rest ++ z ∷ []) (ap₂ monomial (sym g) c)) in record {
      lows = monomials rest;
      is = is;
      below = below_last (monomials rest) (monomial k x) (subst AreRising is h.rising);
    }
