-- What the rows of the table share.
use Rattle.std.proofs.Common.{ℕ, ◌<◌, ◌≤◌, nat_le, ◌⊎◌, inl, inr, Bool, true, false, not, List, [], ◌++◌, ◌≡◌, refl, sym, ap, ap₂, ◌∙◌, arith}
use Rattle.std.specs.Bool.{Decides}
use Rattle.std.proofs.lemmas.Bool.Decides.{leb_tells}
use Rattle.std.proofs.lemmas.List.{append-nil}
use Rattle.sv_term.specs.Sorts.{Sort}
use Rattle.sv_term.specs.Terms.{Term}
use Rattle.sv_term.specs.FactRules.{Fact, in_range}

pub leb_decides : (a b : ℕ) → Decides (nat_le a b) (a ≤ b)
leb_decides a b = go (leb_tells a b)
  where
    go : ((nat_le a b ≡ true) × (a ≤ b)) ⊎ ((nat_le a b ≡ false) × (b < a)) → Decides (nat_le a b) (a ≤ b)
    go (inl h) = (λ e. h.1, λ l. h.0)
    go (inr h) = (λ e. absurd (cc (e, h.0)), λ l. absurd (omega (arith, l, h.1)))

pub not_not : (b : Bool) → not (not b) ≡ b
not_not true = refl
not_not false = refl

pub ranged : (s p : Sort) (u v : Term) (fs gs : List Fact) → s ≡ p → u ≡ v → fs ≡ in_range s u ++ gs → gs ≡ [] → in_range p v ≡ fs
ranged s p u v fs gs e f g h = sym (ap₂ in_range e f) ∙ (sym (append-nil (in_range s u)) ∙ (ap (λ x. in_range s u ++ x) (sym h) ∙ sym g))
