-- What a sum, a difference and a negation of linear forms are worth.
use Rattle.std.proofs.Common.{◌≡◌, ℕ, zero, suc, ◌<◌, ◌≤◌, ◌⊎◌, inl, inr, ℤ, pos, ◌+ℤ◌, ◌-ℤ◌, ◌*ℤ◌, neg_ℤ, refl, ap, ◌∙◌, arith, Bool, if◌then◌else◌}
use Rattle.std.proofs.lemmas.Int.{ints}
use Rattle.std.proofs.lemmas.Bool.{eq-eqb}
use Rattle.std.proofs.lemmas.Bool.Decides.{eqb_tells}
use Rattle.std.proofs.Math.IntN.{*ℤ_comm, *ℤ-zero, zero-*ℤ, suc_ℤ-*ℤ}
use Rattle.sv_first_judge.specs.LinearForm.{LinearForm, IsSame, number_form, variable_form, plus, minus, negation}
use Rattle.sv_first_judge.specs.Value.{value_at}

-- a product with one more
times-suc : (a : ℤ) (n : ℕ) → a *ℤ pos (suc n) ≡ a *ℤ pos n +ℤ a
times-suc a n = *ℤ_comm a (pos (suc n)) ∙ suc_ℤ-*ℤ (pos n) a ∙ ap (λ (z : ℤ). z +ℤ a) (*ℤ_comm (pos n) a)

times-plus : (a b : ℤ) (n : ℕ) → (a +ℤ b) *ℤ pos n ≡ a *ℤ pos n +ℤ b *ℤ pos n
times-plus a b zero = omega (arith, ints, *ℤ-zero (a +ℤ b), *ℤ-zero a, *ℤ-zero b)
times-plus a b (suc n) = omega (arith, ints, times-suc (a +ℤ b) n, times-suc a n, times-suc b n, times-plus a b n)

times-minus : (a b : ℤ) (n : ℕ) → (a -ℤ b) *ℤ pos n ≡ a *ℤ pos n -ℤ b *ℤ pos n
times-minus a b zero = omega (arith, ints, *ℤ-zero (a -ℤ b), *ℤ-zero a, *ℤ-zero b)
times-minus a b (suc n) = omega (arith, ints, times-suc (a -ℤ b) n, times-suc a n, times-suc b n, times-minus a b n)

times-neg : (a : ℤ) (n : ℕ) → neg_ℤ a *ℤ pos n ≡ neg_ℤ (a *ℤ pos n)
times-neg a zero = omega (arith, ints, *ℤ-zero (neg_ℤ a), *ℤ-zero a)
times-neg a (suc n) = omega (arith, ints, times-suc (neg_ℤ a) n, times-suc a n, times-neg a n)

times-one : (n : ℕ) → pos 1 *ℤ pos n ≡ pos n
times-one zero = omega (arith, ints, *ℤ-zero (pos 1))
times-one (suc n) = omega (arith, ints, times-suc (pos 1) n, times-one n)

pub value_at-plus : (n : ℕ) (f g : LinearForm) (values : ℕ → ℕ) → value_at n (plus f g) values ≡ value_at n f values +ℤ value_at n g values
value_at-plus zero f g values = refl
value_at-plus (suc n) f g values =
    omega (arith, ints, value_at-plus n f g values, times-plus (f.coefficient n) (g.coefficient n) (values n))

pub value_at-minus : (n : ℕ) (f g : LinearForm) (values : ℕ → ℕ) → value_at n (minus f g) values ≡ value_at n f values -ℤ value_at n g values
value_at-minus zero f g values = refl
value_at-minus (suc n) f g values =
    omega (arith, ints, value_at-minus n f g values, times-minus (f.coefficient n) (g.coefficient n) (values n))

pub value_at-negation : (n : ℕ) (f : LinearForm) (values : ℕ → ℕ) → value_at n (negation f) values ≡ neg_ℤ (value_at n f values)
value_at-negation zero f values = refl
value_at-negation (suc n) f values =
    omega (arith, ints, value_at-negation n f values, times-neg (f.coefficient n) (values n))

pub value_at-number : (n k : ℕ) (values : ℕ → ℕ) → value_at n (number_form k) values ≡ pos k
value_at-number zero k values = refl
value_at-number (suc n) k values = omega (arith, ints, value_at-number n k values, zero-*ℤ (pos (values n)))

-- forms that are the same are worth the same
pub value_at-same : (n : ℕ) (f g : LinearForm) (values : ℕ → ℕ) → IsSame f g → value_at n f values ≡ value_at n g values
value_at-same zero f g values same = same.constant
value_at-same (suc n) f g values same =
    ap (λ (z : ℤ). z +ℤ f.coefficient n *ℤ pos (values n)) (value_at-same n f g values same)
    ∙ ap (λ (z : ℤ). value_at n g values +ℤ z *ℤ pos (values n)) (same.coefficients n)

-- the form of a variable is worth nothing below it, and its value from it on
coefficient-same : (n v : ℕ) → n ≡ v → (variable_form v).coefficient n ≡ pos 1
coefficient-same n v e = ap (λ (b : Bool). if b then pos 1 else pos 0) (eq-eqb n v e)

coefficient-other : (n v : ℕ) → (n ≡ v → ⊥) → (variable_form v).coefficient n ≡ pos 0
coefficient-other n v ne =
    elim (eqb_tells n v) [
      | inl same ↦ absurd (ne same.1)
      | inr other ↦ ap (λ (b : Bool). if b then pos 1 else pos 0) other.0
    ]

value_at-step : (n : ℕ) (f : LinearForm) (values : ℕ → ℕ) (z : ℤ) → f.coefficient n ≡ z → value_at (suc n) f values ≡ value_at n f values +ℤ z *ℤ pos (values n)
value_at-step n f values z e = ap (λ (x : ℤ). value_at n f values +ℤ x *ℤ pos (values n)) e

split : (v n : ℕ) → (v < n) ⊎ (n ≤ v)
split v n = grind arith

below : (n v : ℕ) (values : ℕ → ℕ) → n ≤ v → value_at n (variable_form v) values ≡ pos 0
below zero v values le = refl
below (suc n) v values le =
    value_at-step n (variable_form v) values (pos 0) (coefficient-other n v (λ e. omega arith))
    ∙ omega (arith, ints, below n v values (omega arith), zero-*ℤ (pos (values n)))

pub value_at-variable : (n v : ℕ) (values : ℕ → ℕ) → v < n → value_at n (variable_form v) values ≡ pos (values v)
value_at-variable zero v values lt = absurd (omega arith)
value_at-variable (suc n) v values lt =
    let cases : (v < n) ⊎ (n ≤ v) = split v n in
    elim cases [
      | inl less ↦
          value_at-step n (variable_form v) values (pos 0) (coefficient-other n v (λ e. omega arith))
          ∙ omega (arith, ints, value_at-variable n v values less, zero-*ℤ (pos (values n)))
      | inr more ↦
          let same : n ≡ v = omega arith in
          value_at-step n (variable_form v) values (pos 1) (coefficient-same n v same)
          ∙ (omega (arith, ints, below n v values more, times-one (values n)) ∙ ap (λ (k : ℕ). pos (values k)) same)
    ]
