use Rattle.std.proofs.Common.{ℕ, ◌≡◌, List, [], ◌++◌, sym, ap, ◌∙◌}
use Rattle.sv_term.specs.Terms.{sort_of}
use Rattle.sv_term.specs.FactRules.{in_range}
use Rattle.sv_term.specs.Banks.{range_of}
use Rattle.sv_log.specs.Logs.{nth_term}
use Rattle.sv_pattern.specs.Patterns.{facts_by}
use Rattle.sv_pattern.specs.Bounds.{low_facts, high_facts}
use Rattle.sv_pattern.proofs.Bounding.{none_without, all_facts, not_low, not_high, both_behind}
use Rattle.sv_pattern.proofs.Taking.{weaker}
use Rattle.sv_pattern.proofs.bounds.after_range.Goals as goal

pub returns-in_default : goal.returns-in_default
returns-in_default g c =
    let ts = g.T.TermNumbers.trees c.args.terms.now in
    let none = none_without (sort_of (nth_term ts c.args.place)) (nth_term ts c.args.v) c.in_default.ensures in
    record {
      facts = ap (λ x. x ++ facts_by ts c.args.premises.now) (sym none);
      below = c.requires.2;
    }

pub returns-in-Some-after_least : goal.returns-in-Some-after_least
returns-in-Some-after_least g c =
    let ts = g.T.TermNumbers.trees c.args.terms.now in
    let s = sort_of (nth_term ts c.args.place) in
    let v = nth_term ts c.args.v in
    let r = range_of c.in-Some.range in
    let all = all_facts s r v c.in-Some.ensures.sort (λ e. cc (c.same_sort.ensures.1 e, c.if-same_sort.false)) in
    weaker _ _ c.after_greatest.result c.after_greatest.ensures
    (λ h. not_high ts (low_facts r v) (high_facts r v) (in_range s v) all c.args.premises.now c.in-Some-after_least.left.now c.in-Some-after_least.ensures h)
    (λ left h. both_behind ts (low_facts r v) (high_facts r v) (in_range s v) all c.args.premises.now c.in-Some-after_least.left.now left.now c.in-Some-after_least.ensures h)

pub returns-in-None : goal.returns-in-None
returns-in-None g c =
    let ts = g.T.TermNumbers.trees c.args.terms.now in
    let s = sort_of (nth_term ts c.args.place) in
    let v = nth_term ts c.args.v in
    let r = range_of c.in-Some.range in
    let all = all_facts s r v c.in-Some.ensures.sort (λ e. cc (c.same_sort.ensures.1 e, c.if-same_sort.false)) in
    not_low ts (low_facts r v) (high_facts r v) (in_range s v) all c.args.premises.now c.in-None.ensures
