-- Believed: linear forms, a constant and a coefficient for each variable: what the judge knows of a value, over the variables' values at entry. Hold it against sums and differences of linear expressions.
use Rattle.std.specs.Prelude.{◌≡◌, ◌==◌, ℕ, ℤ, pos, ◌+ℤ◌, ◌-ℤ◌, neg_ℤ, if◌then◌else◌}

pub record LinearForm : Type 0 where
  pub constant : ℤ
  pub coefficient : ℕ → ℤ

-- a number, and the value of a variable at entry
abbrev pub number_form : ℕ → LinearForm
number_form n = record { constant = pos n; coefficient = λ _. pos 0 }

abbrev pub variable_form : ℕ → LinearForm
variable_form v = record { constant = pos 0; coefficient = λ w. if w == v then pos 1 else pos 0 }

-- a sum, a difference, and the negation of a form
abbrev pub plus : LinearForm → LinearForm → LinearForm
plus f g = record { constant = f.constant +ℤ g.constant; coefficient = λ v. f.coefficient v +ℤ g.coefficient v }

abbrev pub minus : LinearForm → LinearForm → LinearForm
minus f g = record { constant = f.constant -ℤ g.constant; coefficient = λ v. f.coefficient v -ℤ g.coefficient v }

abbrev pub negation : LinearForm → LinearForm
negation f = record { constant = neg_ℤ f.constant; coefficient = λ v. neg_ℤ (f.coefficient v) }

-- two forms have the same constant and the same coefficients
pub record IsSame (f g : LinearForm) : Type 0 where
  pub constant : f.constant ≡ g.constant
  pub coefficients : (v : ℕ) → f.coefficient v ≡ g.coefficient v

-- no variable and the constant 0
abbrev pub IsZero : LinearForm → Type 0
IsZero f = IsSame f (number_form 0)
