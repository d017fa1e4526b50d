-- The test of the rules is exact.
use Rattle.std.proofs.Common.{ℕ, true, ◌&&◌, nat_eq, List, [], ◌∷◌, ◌≡◌, refl, sym, ap₂, subst}
use Rattle.sv_term.specs.FactRules.{Fact, Says, AreTrueIn, IsTrueIn, are_facts, is_fact, Instance, number_of, premises_of, conclusion_of, asks, IsByRule, AndLeft, AndRight, NoOrLeft, NoOrRight, NotHolds, NotFails, OrElseRight, OrElseLeft, NoAndRight, NoAndLeft, IteThen, IteElse, NoIteThen, NoIteElse, EqRight, EqLeft, UnequalRight, UnequalLeft, Itself, Turned, Through, Alike, Chosen, Passed, ReadBack, ReadEqual, ReadOther, ReadConst, ReadWithin, ReadAbove, PartIs, ReadBelow, AtLeast, AtMost, WrapsNot, QuotientLow, QuotientHigh, QuotientHighNegative, QuotientLowNegative, RemainderIs, ProductOfHigh, ProductOfLow, ProductHighLow, ProductLowHigh, SumOfStore, SumOfNone, SumAtLeast, SumOverOne, SumOverTwo, Strict, Between}
use Rattle.sv_term.specs.FactRuleTest.{same_fact, same_facts, candidate, is_instance_of, is_by_rule, TestIsExact, RulesAreTrue}
use Rattle.sv_term.proofs.Same.{both_true, and_true, same_nat, nat_same, same_bool_is, bool_self, term_is, term_self}
use Rattle.sv_term.proofs.FactRules.{rules_true}

fact_is : (f g : Fact) → same_fact f g ≡ true → f ≡ g
fact_is (Says a t) (Says b u) e = let q = both_true _ _ e in ap₂ Says (same_bool_is a b q.0) (term_is t u q.1)

fact_self : (f : Fact) → same_fact f f ≡ true
fact_self (Says a t) = and_true _ _ (bool_self a) (term_self t)

facts_are : (fs gs : List Fact) → same_facts fs gs ≡ true → fs ≡ gs
facts_are [] [] e = refl
facts_are (f ∷ fs) (g ∷ gs) e = let q = both_true _ _ e in ap₂ (λ x xs. x ∷ xs) (fact_is f g q.0) (facts_are fs gs q.1)
facts_are _ _ e = cc e

facts_self : (fs : List Fact) → same_facts fs fs ≡ true
facts_self [] = refl
facts_self (f ∷ fs) = and_true _ _ (fact_self f) (facts_self fs)

found : (i : Instance) → candidate (number_of i) (premises_of i) (conclusion_of i) ≡ i
found (AndLeft p q) = refl
found (AndRight p q) = refl
found (NoOrLeft p q) = refl
found (NoOrRight p q) = refl
found (NotHolds p) = refl
found (NotFails p) = refl
found (OrElseRight p q) = refl
found (OrElseLeft p q) = refl
found (NoAndRight p q) = refl
found (NoAndLeft p q) = refl
found (IteThen c p q) = refl
found (IteElse c p q) = refl
found (NoIteThen c p q) = refl
found (NoIteElse c p q) = refl
found (EqRight sign p q) = refl
found (EqLeft sign p q) = refl
found (UnequalRight sign p q) = refl
found (UnequalLeft sign p q) = refl
found (Itself a) = refl
found (Turned a b) = refl
found (Through a b c) = refl
found (Alike x ts us) = refl
found (Chosen c a b) = refl
found (Passed c a b) = refl
found (ReadBack a i v) = refl
found (ReadEqual a i j v) = refl
found (ReadOther a i j v) = refl
found (ReadConst s v j) = refl
found (ReadWithin n a b j) = refl
found (ReadAbove n a b j) = refl
found (PartIs k s ts) = refl
found (ReadBelow n a b j) = refl
found (AtLeast t) = refl
found (AtMost t) = refl
found (WrapsNot g n a) = refl
found (QuotientLow a d) = refl
found (QuotientHigh a d) = refl
found (QuotientHighNegative a d) = refl
found (QuotientLowNegative a d) = refl
found (RemainderIs a d) = refl
found (ProductOfHigh a b) = refl
found (ProductOfLow a b) = refl
found (ProductHighLow a b) = refl
found (ProductLowHigh a b) = refl
found (SumOfStore a i v) = refl
found (SumOfNone s) = refl
found (SumAtLeast a) = refl
found (SumOverOne a i) = refl
found (SumOverTwo a i j) = refl
found (Strict a b) = refl
found (Between a b) = refl

sound : (i : Instance) (r : ℕ) (ps : List Fact) (c : Fact) → is_instance_of i r ps c ≡ true → IsByRule r ps c
sound i r ps c e =
    let a = both_true (nat_eq (number_of i) r) (same_facts (premises_of i) ps && (same_fact (conclusion_of i) c && asks i)) e in
    let b = both_true (same_facts (premises_of i) ps) (same_fact (conclusion_of i) c && asks i) a.1 in
    let d = both_true (same_fact (conclusion_of i) c) (asks i) b.1 in
    (i, same_nat (number_of i) r a.0, facts_are (premises_of i) ps b.0, fact_is (conclusion_of i) c d.0, d.1)

itself : (i : Instance) → asks i ≡ true → is_instance_of i (number_of i) (premises_of i) (conclusion_of i) ≡ true
itself i e = and_true _ _ (nat_same (number_of i) (number_of i) refl) (and_true _ _ (facts_self (premises_of i)) (and_true _ _ (fact_self (conclusion_of i)) e))

complete_at : (i : Instance) → asks i ≡ true → is_by_rule (number_of i) (premises_of i) (conclusion_of i) ≡ true
complete_at i e = subst (λ j. is_instance_of j (number_of i) (premises_of i) (conclusion_of i) ≡ true) (sym (found i)) (itself i e)

moved : (i : Instance) (r : ℕ) (ps : List Fact) (c : Fact) → number_of i ≡ r → premises_of i ≡ ps → conclusion_of i ≡ c → is_by_rule (number_of i) (premises_of i) (conclusion_of i) ≡ true → is_by_rule r ps c ≡ true
moved i r ps c e f g h =
    subst (λ x. is_by_rule r ps x ≡ true) g (subst (λ x. is_by_rule r x (conclusion_of i) ≡ true) f (subst (λ x. is_by_rule x (premises_of i) (conclusion_of i) ≡ true) e h))

pub test_is_exact : TestIsExact
test_is_exact r ps c = ((λ e. sound (candidate r ps c) r ps c e), (λ b. moved b.0 r ps c b.1 b.2 b.3 (complete_at b.0 b.4)))

pub rules_are_true : RulesAreTrue
rules_are_true m r ps c b fs f h =
    subst (IsTrueIn m) b.3
    (rules_true m b.0
    (record { asked = b.4; premises = subst (λ x. are_facts x ≡ true) (sym b.2) fs; conclusion = subst (λ x. is_fact x ≡ true) (sym b.3) f })
    (subst (AreTrueIn m) (sym b.2) h))
