-- Items of a log by number, and the facts that they are.
use Rattle.std.proofs.Common.{Option, Some, None, ℕ, zero, suc, ◌<◌, Bool, List, [], ◌∷◌, ◌++◌, ◌≡◌, ◌↔◌, length, map, slice_get, refl, sym, ap, ap₂, ◌∙◌, subst, arith}
use Rattle.std.specs.Option.{option_map}
use Rattle.std.specs.List.{All}
use Rattle.std.proofs.lemmas.Option.{slice_get-map, slice_get_within, get_or_from_slice_get, none-some, same_Some}
use Rattle.std.proofs.lemmas.List.Elements.{All-cons, All-nil}
use Rattle.sv_term.specs.Terms.{Term}
use Rattle.sv_term.specs.FactRules.{Fact, Says, IsByRule}
use Rattle.sv_log.specs.Logs.{Known, AreFacts, nth_term}
use Rattle.sv_force.specs.InForce.{Held, FactOn, RowOf, IsRowAt}
use Rattle.sv_branch.specs.BranchTrees.{item_of, IsBelow}
use Rattle.sv_pattern.specs.Patterns.{fact_by, facts_by}
use Rattle.sv_pattern.specs.NodeOpenings.{ArePremises}
use Rattle.sv_by_rule.specs.ItemFacts.{AreHeld, AreNotHeld, IsGivenBy}
use Rattle.sv_by_rule.proofs.FewPremises.{few_premises}

pub held_length : (items : List Held) (ks : List ℕ) (ps : List (Bool × ℕ)) → AreHeld items ks ps → length ks ≡ length ps
held_length items [] [] h = refl
held_length items (k ∷ ks) (p ∷ ps) h = ap suc (held_length items ks ps h.1)
held_length items [] (p ∷ ps) h = absurd h
held_length items (k ∷ ks) [] h = absurd h

pub held_push : (items : List Held) (ks : List ℕ) (ps : List (Bool × ℕ)) (k : ℕ) (p : Bool × ℕ) → AreHeld items ks ps → slice_get items k ≡ Some (FactOn p.0 p.1) → AreHeld items (ks ++ k ∷ []) (ps ++ p ∷ [])
held_push items [] [] k p h e = (e, tt)
held_push items (j ∷ ks) (q ∷ ps) k p h e = (h.0, held_push items ks ps k p h.1 e)
held_push items [] (q ∷ ps) k p h e = absurd h
held_push items (j ∷ ks) [] k p h e = absurd h

pub held_at : (items : List Held) (ks : List ℕ) (ps : List (Bool × ℕ)) (i k : ℕ) → AreHeld items ks ps → slice_get ks i ≡ Some k → (p : Bool × ℕ) × (slice_get items k ≡ Some (FactOn p.0 p.1))
held_at items [] ps i k h e = absurd (none-some k e)
held_at items (j ∷ ks) [] i k h e = absurd h
held_at items (j ∷ ks) (p ∷ ps) zero k h e = (p, ap (slice_get items) (sym (same_Some j k e)) ∙ h.0)
held_at items (j ∷ ks) (p ∷ ps) (suc i) k h e = held_at items ks ps i k h.1 e

pub row_none : (items : List Held) (from : List ℕ) (i k : ℕ) → slice_get from i ≡ Some k → IsRowAt items k → AreNotHeld items from
row_none items from i k e r = record {
  none = λ ps l h.
      let p = held_at items from ps i k h e in
      let both : Some (FactOn p.0.0 p.0.1) ≡ Some (RowOf r.0) = sym p.1 ∙ r.1 in
      absurd (cc both);
}

pub many_none : (items : List Held) (from : List ℕ) → 3 < length from → AreNotHeld items from
many_none items from m = record { none = λ ps l h. let n = held_length items from ps h in omega (arith, m, l, n) }

-- ---- trees

module _ (ts : List Term) (items : List Held) where
  item_at : (k : ℕ) (p : Bool × ℕ) → slice_get items k ≡ Some (FactOn p.0 p.1) → slice_get (map (item_of ts) items) k ≡ Some (Known (fact_by ts p))
  item_at k p e = slice_get-map (item_of ts) items k ∙ ap (λ x. option_map (item_of ts) x) e

  pub held_facts : (ks : List ℕ) (ps : List (Bool × ℕ)) → AreHeld items ks ps → AreFacts (map (item_of ts) items) ks (facts_by ts ps)
  held_facts [] [] h = tt
  held_facts (k ∷ ks) (p ∷ ps) h = (item_at k p h.0, held_facts ks ps h.1)
  held_facts [] (p ∷ ps) h = absurd h
  held_facts (k ∷ ks) [] h = absurd h

  pub same_facts : (ks : List ℕ) (fs gs : List Fact) → AreFacts (map (item_of ts) items) ks fs → AreFacts (map (item_of ts) items) ks gs → fs ≡ gs
  same_facts [] [] [] a b = refl
  same_facts [] (f ∷ fs) gs a b = absurd a
  same_facts [] [] (g ∷ gs) a b = absurd b
  same_facts (k ∷ ks) [] gs a b = absurd a
  same_facts (k ∷ ks) (f ∷ fs) [] a b = absurd b
  same_facts (k ∷ ks) (f ∷ fs) (g ∷ gs) a b =
      let both : Some (Known f) ≡ Some (Known g) = sym a.0 ∙ b.0 in
      let own : f ≡ g = cc both in
      ap₂ (λ x xs. x ∷ xs) own (same_facts ks fs gs a.1 b.1)

  came : (k : ℕ) (f : Fact) → slice_get (map (item_of ts) items) k ≡ Some (Known f) → (p : Bool × ℕ) × (slice_get items k ≡ Some (FactOn p.0 p.1))
  came k f e = go (slice_get items k) refl (sym (slice_get-map (item_of ts) items k) ∙ e)
    where
      go : (o : Option Held) → slice_get items k ≡ o → option_map (item_of ts) o ≡ Some (Known f) → (p : Bool × ℕ) × (slice_get items k ≡ Some (FactOn p.0 p.1))
      go None u v = absurd (cc v)
      go (Some (FactOn sign n)) u v = ((sign, n), u)
      go (Some (RowOf r)) u v = absurd (cc v)

  pub facts_held : (ks : List ℕ) (fs : List Fact) → AreFacts (map (item_of ts) items) ks fs → (ps : List (Bool × ℕ)) × (length ps ≡ length fs) × AreHeld items ks ps
  facts_held [] [] a = ([], refl, tt)
  facts_held [] (f ∷ fs) a = absurd a
  facts_held (k ∷ ks) [] a = absurd a
  facts_held (k ∷ ks) (f ∷ fs) a =
      let p = came k f a.0 in
      let r = facts_held ks fs a.1 in
      (p.0 ∷ r.0, ap suc r.1, (p.1, r.2))

  below_at : All (IsBelow (length ts)) items → (k : ℕ) (p : Bool × ℕ) → slice_get items k ≡ Some (FactOn p.0 p.1) → p.1 < length ts
  below_at b k p e = subst (IsBelow (length ts)) (get_or_from_slice_get items k (FactOn p.0 p.1) (FactOn p.0 p.1) e) (b k (FactOn p.0 p.1) (slice_get_within items k (FactOn p.0 p.1) e))

  pub held_premises : All (IsBelow (length ts)) items → (ks : List ℕ) (ps : List (Bool × ℕ)) → AreHeld items ks ps → ArePremises ts ps
  held_premises b [] [] h = All-nil (λ (q : Bool × ℕ). q.1 < length ts)
  held_premises b (k ∷ ks) (p ∷ ps) h = All-cons (λ (q : Bool × ℕ). q.1 < length ts) p ps (below_at b k p h.0) (held_premises b ks ps h.1)
  held_premises b [] (p ∷ ps) h = absurd h
  held_premises b (k ∷ ks) [] h = absurd h

  -- ---- what a rule gives from items

  module _ (rule : ℕ) (from : List ℕ) (sign : Bool) (n : ℕ) where
    pub given_by : (ps : List (Bool × ℕ)) → AreHeld items from ps → IsByRule rule (facts_by ts ps) (fact_by ts (sign, n)) ↔ IsGivenBy ts items rule from sign n
    given_by ps h = (
      λ b. (facts_by ts ps, held_facts from ps h, b),
      λ g. subst (λ fs. IsByRule rule fs (Says sign (nth_term ts n))) (same_facts from g.0 (facts_by ts ps) g.1 (held_facts from ps h)) g.2,
    )

    pub none_given : (rule ≡ 23 → ⊥) → AreNotHeld items from → IsGivenBy ts items rule from sign n → ⊥
    none_given other h g =
        let r = facts_held from g.0 g.1 in
        let few = few_premises g.2.0 (λ e. other (sym g.2.1 ∙ e)) in
        let sized = ap length g.2.2 in
        h.none r.0 (omega (arith, few, sized, r.1)) r.2
