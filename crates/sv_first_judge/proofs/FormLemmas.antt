-- Equal forms, and the laws of their sums.
use Rattle.std.proofs.Common.{◌≡◌, ◌+◌, ◌<◌, ◌≤◌, ℕ, List, length, get_or, drop, sym, ap, ◌∙◌, arith}
use Rattle.std.proofs.lemmas.Int.{ints}
use Rattle.std.proofs.lemmas.List.{drop_more, drop_all}
use Rattle.sv_first_form.specs.declared.contract.Item.{Item}
use Rattle.sv_first_judge.specs.Judging.{item_form, sum_form}
use Rattle.sv_first_judge.specs.LinearForm.{LinearForm, IsSame, number_form, plus}

pub same_form : (f g : LinearForm) → IsSame f g → f ≡ g
same_form f g h = λ i. record { constant = h.constant i; coefficient = λ v. h.coefficients v i }

plus_assoc : (f g h : LinearForm) → plus (plus f g) h ≡ plus f (plus g h)
plus_assoc f g h = same_form _ _ (record { constant = omega (arith, ints); coefficients = λ v. omega (arith, ints) })

plus_zero : (f : LinearForm) → plus f (number_form 0) ≡ f
plus_zero f = same_form _ _ (record { constant = omega (arith, ints); coefficients = λ v. omega (arith, ints) })

zero_plus : (f : LinearForm) → plus (number_form 0) f ≡ f
zero_plus f = same_form _ _ (record { constant = omega (arith, ints); coefficients = λ v. omega (arith, ints) })

-- a sum of items that is added up from the left: what is added up, and the sum of the items from a place on
module _ (values : ℕ → LinearForm) (items : List Item) where
  abbrev pub AddsUpTo : LinearForm → ℕ → Type 0
  AddsUpTo sum i = plus sum (sum_form values (drop i items)) ≡ sum_form values items

  pub adds_up_from_zero : (sum : LinearForm) → sum ≡ number_form 0 → AddsUpTo sum 0
  adds_up_from_zero sum e = rw e (zero_plus (sum_form values items))

  pub adds_up_more : (sum next : LinearForm) (i : ℕ) (d : Item) → i < length items → AddsUpTo sum i → next ≡ plus sum (item_form values (get_or items i d)) → AddsUpTo next (i + 1)
  adds_up_more sum next i d h so_far e =
      let rest = sum_form values (drop (i + 1) items) in
      let split = ap (sum_form values) (drop_more items i d h) in
      ap (λ f. plus f rest) e ∙ plus_assoc sum (item_form values (get_or items i d)) rest ∙ ap (plus sum) (sym split) ∙ so_far

  pub adds_up_all : (sum : LinearForm) (i : ℕ) → length items ≤ i → AddsUpTo sum i → sum ≡ sum_form values items
  adds_up_all sum i h so_far =
      sym (plus_zero sum) ∙ ap (λ rest. plus sum (sum_form values rest)) (sym (drop_all i items h)) ∙ so_far
