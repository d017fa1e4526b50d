-- Serves the proof: what a step of adding a sum puts behind what was made, or that a number doesn't fit.
use Rattle.std.specs.Prelude.{ℕ, Bool, cond, List, [], ◌∷◌, ◌++◌, ◌≡◌, ℤ, ◌+ℤ◌, ◌*ℤ◌, MatchBool}
use Rattle.sv_num.specs.Range.{IsI128}
use Rattle.sv_log.specs.LogEntries.{Monomial}
use Rattle.sv_log.specs.LogRows.{monomial, is_zero}
use Rattle.sv_row.specs.RowParts.{monomials, FitsMultiples, sum_of_multiples}

-- nothing, where the number is 0
abbrev pub part : ℤ → ℕ → List Monomial
part k x = cond (is_zero k) [] (monomial k x ∷ [])

-- the parts are added, or they don't fit
abbrev pub AddsParts : Type 0 → List Monomial → List Monomial → List Monomial → Bool → Type 0
AddsParts Fits parts before after fits = MatchBool fits (Fits × (after ≡ before ++ parts)) (Fits → ⊥)

abbrev pub FitsBoth : ℤ → ℤ → ℤ → ℤ → Type 0
FitsBoth m k n l = IsI128 (m *ℤ k) × IsI128 (n *ℤ l) × IsI128 (m *ℤ k +ℤ n *ℤ l)

-- the sum of the two multiples is added
abbrev pub AddsSum : ℤ → List (ℤ × ℕ) → ℤ → List (ℤ × ℕ) → List (ℤ × ℕ) → List (ℤ × ℕ) → Bool → Type 0
AddsSum m own n other before after fits =
    AddsParts (FitsMultiples m (monomials own) n (monomials other)) (sum_of_multiples m (monomials own) n (monomials other))
    (monomials before) (monomials after) fits
