-- The facts that a term is in the range of a sort, by the two bounds.
use Rattle.std.proofs.Common.{ℕ, Bool, true, false, cond, List, [], ◌∷◌, ◌++◌, ◌≡◌, ◌↔◌, IsTrue, length, refl, sym, ap, ap₂, ◌∙◌, subst, append_assoc}
use Rattle.sv_term.specs.Sorts.{Range, Any, Low, Bits, Sort, NumSort, BoolSort, ArrSort, TupSort, is_num, same_sort}
use Rattle.sv_term.specs.Terms.{Term, sort_of}
use Rattle.sv_term.specs.FactRules.{Fact, range_facts, in_range}
use Rattle.sv_term.proofs.Same.{sort_is}
use Rattle.sv_log.specs.Logs.{nth_term}
use Rattle.sv_pattern.specs.Patterns.{facts_by}
use Rattle.sv_pattern.specs.NodeOpenings.{ArePremises, IsBehind, IsNotBehind}
use Rattle.sv_pattern.specs.Bounds.{low_facts, high_facts}
use Rattle.sv_pattern.proofs.NumberedTrees.{same_back}

pub none_without : (s : Sort) (v : Term) → is_num s ≡ false → in_range s v ≡ []
none_without s v e = go (same_sort s (sort_of v)) s e
  where
    none_of : (s : Sort) → is_num s ≡ false → range_facts s v ≡ []
    none_of (NumSort r) e = cc e
    none_of BoolSort e = refl
    none_of (ArrSort s) e = refl
    none_of (TupSort ss) e = refl

    go : (b : Bool) (s : Sort) → is_num s ≡ false → cond b [] (range_facts s v) ≡ []
    go true s e = refl
    go false s e = none_of s e

pub none_of_own : (s : Sort) (v : Term) → s ≡ sort_of v → same_sort s (sort_of v) ≡ true → in_range s v ≡ []
none_of_own s v e f = ap (λ b. cond b [] (range_facts s v)) f

both_facts : (r : Range) (v : Term) → range_facts (NumSort r) v ≡ low_facts r v ++ high_facts r v
both_facts Any v = refl
both_facts Low v = refl
both_facts (Bits g n) v = refl

pub all_facts : (s : Sort) (r : Range) (v : Term) → s ≡ NumSort r → (s ≡ sort_of v → ⊥) → in_range s v ≡ low_facts r v ++ high_facts r v
all_facts s r v e n = go (same_sort s (sort_of v)) refl
  where
    go : (b : Bool) → same_sort s (sort_of v) ≡ b → cond b [] (range_facts s v) ≡ low_facts r v ++ high_facts r v
    go true f = absurd (n (sort_is s (sort_of v) f))
    go false f = ap (λ x. range_facts x v) e ∙ both_facts r v

module _ (ts : List Term) (low high all : List Fact) (e : all ≡ low ++ high) (ps : List (Bool × ℕ)) where
  pub not_low : IsNotBehind ts low ps → IsNotBehind ts all ps
  not_low h = record { none = λ gs f. h.none (high ++ gs) (f ∙ (ap (λ x. x ++ gs) e ∙ append_assoc low high gs)) }

  pub not_high : (mid : List (Bool × ℕ)) → IsBehind ts low ps mid → IsNotBehind ts high mid → IsNotBehind ts all ps
  not_high mid b h = record {
    none = λ gs f. h.none gs (same_back low (facts_by ts mid) (high ++ gs) (sym b.facts ∙ (f ∙ (ap (λ x. x ++ gs) e ∙ append_assoc low high gs))));
  }

  pub both_behind : (mid left : List (Bool × ℕ)) → IsBehind ts low ps mid → IsBehind ts high mid left → IsBehind ts all ps left
  both_behind mid left b h = record {
    facts = b.facts ∙ (ap (λ x. low ++ x) h.facts ∙ (sym (append_assoc low high (facts_by ts left)) ∙ ap (λ x. x ++ facts_by ts left) (sym e)));
    below = h.below;
  }
