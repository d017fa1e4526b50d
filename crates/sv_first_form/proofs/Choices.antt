-- Whether a text is among some words.
use Rattle.std.proofs.Common.{◌≡◌, ℕ, suc, zero, true, false, List, [], ◌∷◌, map, Contains, sym, ◌∙◌, nat_eq, arith, inl, inr, subst, true≢false}
use Rattle.std.specs.Cmp.Lexicographic.{pointwise, same_text}
use Rattle.std.specs.List.{list_any}
use Rattle.std.proofs.lemmas.Bool.{or_cases, or_parts}
use Rattle.std.proofs.lemmas.Cmp.{nat_list_eq_equiv}

module _ {K : Type 0} (v : K → List ℕ) (q : List ℕ) where
  pub held : (ks : List K) → list_any (λ k. pointwise nat_eq (v k) q) ks ≡ true → Contains (map v ks) q
  held [] any = absurd (true≢false (sym any))
  held (k ∷ ks) any =
      elim (or_cases _ _ any) [
        | inl here ↦ (zero, omega arith, same_text (v k) q (sym here))
        | inr later ↦ let rest = held ks later in (suc rest.0, omega (arith, rest.1), rest.2)
      ]

  pub not_held : (ks : List K) → list_any (λ k. pointwise nat_eq (v k) q) ks ≡ false → Contains (map v ks) q → ⊥
  not_held [] none (i, within, at) = omega arith
  not_held (k ∷ ks) none (zero, within, at) =
      true≢false (sym (subst (λ t. pointwise nat_eq t q ≡ true) (sym at) (nat_list_eq_equiv.refl q)) ∙ (or_parts _ _ none).0)
  not_held (k ∷ ks) none (suc i, within, at) = not_held ks (or_parts _ _ none).1 (i, omega (arith, within), at)
