-- But for congruence, the pattern of a rule is the rule.
use Rattle.std.proofs.Common.{ℕ, Bool, true, false, cond, nat_eq, List, [], ◌∷◌, ◌≡◌, refl, sym, ◌∙◌, subst}
use Rattle.std.proofs.lemmas.Bool.Decides.{Decides-eqb}
use Rattle.sv_term.specs.Terms.{Term}
use Rattle.sv_term.specs.FactRules.{Fact, Says, IsByRule, premises_of, conclusion_of}
use Rattle.sv_pattern.specs.Patterns.{Follows, IsByPattern}
use Rattle.sv_pattern.specs.declared.step.Step.{Step}
use Rattle.sv_by_rule.specs.RuleRows.{rows, looked_up, steps_of, PatternsAreRules}
use Rattle.sv_by_rule.proofs.PatternsOfRules.{by_pattern}
use Rattle.sv_by_rule.proofs.RulesOfPatterns.{AreRows, all_rows}

row_found : (r : ℕ) (more : List (ℕ × List Step)) → AreRows more → (sign : Bool) (fs : List Fact) (t : Term) → Follows (looked_up r more) sign fs (t ∷ []) → IsByRule r fs (Says sign t)
row_found r [] a sign fs t f = absurd (cc (f.0, f.1.0))
row_found r (row ∷ more) a sign fs t f = go (row_found r more a.1 sign fs t) (nat_eq r row.0) refl f
  where
    go : (Follows (looked_up r more) sign fs (t ∷ []) → IsByRule r fs (Says sign t)) → (b : Bool) → nat_eq r row.0 ≡ b → Follows (cond b row.1 (looked_up r more)) sign fs (t ∷ []) → IsByRule r fs (Says sign t)
    go others true e g = subst (λ n. IsByRule n fs (Says sign t)) (sym ((Decides-eqb r row.0).0 e)) (a.0 sign fs t g)
    go others false e g = others g

rule_of : (r : ℕ) (fs : List Fact) (c : Fact) → IsByPattern (steps_of r) fs c → IsByRule r fs c
rule_of r fs (Says sign t) f = row_found r rows all_rows sign fs t f

pub patterns_are_rules : PatternsAreRules
patterns_are_rules r other fs c = (
  rule_of r fs c,
  λ b.
      let own = by_pattern b.0 (λ e. other (sym b.1 ∙ e)) b.4 in
      subst (λ x. IsByPattern (steps_of r) fs x) b.3
      (subst (λ x. IsByPattern (steps_of r) x (conclusion_of b.0)) b.2 (subst (λ n. IsByPattern (steps_of n) (premises_of b.0) (conclusion_of b.0)) b.1 own)),
)
