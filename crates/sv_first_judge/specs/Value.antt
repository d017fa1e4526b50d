-- Believed: what a linear form is worth, where the variables below a place have these values. Hold it against the value of a linear expression.
use Rattle.std.specs.Prelude.{ℕ, zero, suc, ℤ, pos, ◌+ℤ◌, ◌*ℤ◌}
use Rattle.sv_first_judge.specs.LinearForm.{LinearForm}

abbrev pub value_at : ℕ → LinearForm → (ℕ → ℕ) → ℤ
value_at zero f values = f.constant
value_at (suc n) f values = value_at n f values +ℤ f.coefficient n *ℤ pos (values n)
