-- How many terms a node adds.
use Rattle.std.proofs.Common.{ℕ, zero, suc, ◌+◌, ◌≤◌, ◌≡◌, ◌⊎◌, inl, inr, Bool, true, false, List, [], ◌∷◌, ◌++◌, length, slice_get, Some, refl, sym, ap, ◌∙◌, subst, arith, length-append}
use Rattle.sv_term.specs.Banks.{Nodes, StandsIn}
use Rattle.sv_term.specs.declared.node.Node.{Node}
use Rattle.sv_term.specs.contracts.node.NodePartialEq.TheImpl.{eq-value}
use Rattle.sv_term.proofs.NodeEquality.{node_is, node_self}

same_some : (x y : Node) → Some x ≡ Some y → x ≡ y
same_some x y e = cc

differ : (x y : Node) → (eq-value).it x y ≡ false → y ≡ x → ⊥
differ x y e q = let self : (eq-value).it x y ≡ true = subst (λ z. (eq-value).it x z ≡ true) (sym q) (node_self x) in cc

stands_or_not : (xs : List Node) (x : Node) → StandsIn xs x ⊎ (StandsIn xs x → ⊥)
stands_or_not [] x = inr (λ h. (let e : slice_get [] h.0 ≡ Some x = h.1 in cc))
stands_or_not (y ∷ ys) x = here ((eq-value).it x y) refl (stands_or_not ys x)
  where
    here : (c : Bool) → (eq-value).it x y ≡ c → StandsIn ys x ⊎ (StandsIn ys x → ⊥) → StandsIn (y ∷ ys) x ⊎ (StandsIn (y ∷ ys) x → ⊥)
    here true e more = inl (0, ap Some (sym (node_is x y e)))
    here false e (inl h) = inl (suc h.0, h.1)
    here false e (inr h) = inr (λ w. none w.0 w.1)
      where
        none : (k : ℕ) → slice_get (y ∷ ys) k ≡ Some x → ⊥
        none zero q = differ x y e (same_some y x q)
        none (suc k) q = h (k, q)

pub adds_one : {A : Type 0} (old new : Nodes) (x : Node) → (StandsIn old.nodes x → A × (new ≡ old)) → ((StandsIn old.nodes x → ⊥) → new.nodes ≡ old.nodes ++ x ∷ []) → length new.nodes ≤ length old.nodes + 1
adds_one old new x there last = elim (stands_or_not old.nodes x) [
  | inl h ↦ (let e : length new.nodes ≡ length old.nodes = ap (λ b. length b.nodes) (there h).1 in omega (arith, e))
  | inr h ↦ (let e : length new.nodes ≡ length old.nodes + 1 = ap length (last h) ∙ length-append old.nodes (x ∷ []) in omega (arith, e))
]
