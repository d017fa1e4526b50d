-- Believed: fractions, their lowest terms, a sum with a multiple, the bound of a column, and the numbers that working these out makes. Hold it against the arithmetic of fractions.
use Rattle.std.specs.Prelude.{ℕ, ◌≡◌, ◌⊎◌, ℤ, pos, neg_ℤ, ◌+ℤ◌, ◌*ℤ◌, ◌<ℤ◌, unsigned_abs}
use Rattle.std.specs.Int.{◌∣◌}
use Rattle.sv_num.specs.Range.{IsI128}

pub record Ratio : Type 0 where
  pub top : ℤ
  pub under : ℤ

abbrev pub ratio : ℤ → ℤ → Ratio
ratio a b = record { top = a; under = b }

-- a positive denominator, and no number but 1 divides both
pub record IsReduced (f : Ratio) : Type 0 where
  pub positive : pos 0 <ℤ f.under
  pub lowest : (d : ℕ) → d ∣ unsigned_abs f.top → d ∣ unsigned_abs f.under → d ≡ 1

-- ---- two fractions with positive denominators

abbrev pub IsSame : Ratio → Ratio → Type 0
IsSame f g = f.top *ℤ g.under ≡ g.top *ℤ f.under

abbrev pub IsLess : Ratio → Ratio → Type 0
IsLess f g = (f.top *ℤ g.under) <ℤ (g.top *ℤ f.under)

-- ---- one step of a sum: f and k times x

abbrev pub sum_with : Ratio → ℤ → Ratio → Ratio
sum_with f k x = ratio (f.top *ℤ x.under +ℤ (k *ℤ x.top) *ℤ f.under) (f.under *ℤ x.under)

-- each product and the sum are an `i128`, before the sum is put in lowest terms
pub record FitsSum (f : Ratio) (k : ℤ) (x : Ratio) : Type 0 where
  pub share : IsI128 (k *ℤ x.top)
  pub own : IsI128 (f.top *ℤ x.under)
  pub other : IsI128 ((k *ℤ x.top) *ℤ f.under)
  pub top : IsI128 (f.top *ℤ x.under +ℤ (k *ℤ x.top) *ℤ f.under)
  pub under : IsI128 (f.under *ℤ x.under)

-- g is the sum in lowest terms
pub record IsSum (f : Ratio) (k : ℤ) (x : Ratio) (g : Ratio) : Type 0 where
  pub reduced : IsReduced g
  pub same : IsSame g (sum_with f k x)

-- ---- the bound -f / k, at which f and k times the column are 0 together

-- g is the bound in lowest terms
pub record IsBound (f : Ratio) (k : ℤ) (g : Ratio) : Type 0 where
  pub reduced : IsReduced g
  pub zero_sum : g.top *ℤ (f.under *ℤ k) ≡ neg_ℤ (f.top *ℤ g.under)

abbrev pub magnitude : ℤ → ℤ
magnitude k = pos (unsigned_abs k)

-- the magnitude of k, its product with the denominator, or, for a positive k, the negative of the numerator in lowest terms is no `i128`
abbrev pub ExceedsBound : Ratio → ℤ → Type 0
ExceedsBound f k =
    (IsI128 (magnitude k) → ⊥)
    ⊎ ((IsI128 (f.under *ℤ magnitude k) → ⊥)
    ⊎ ((pos 0 <ℤ k) × (g : Ratio) × IsReduced g × IsSame g (ratio f.top (f.under *ℤ magnitude k)) × (IsI128 (neg_ℤ g.top) → ⊥)))
