use Rattle.std.proofs.Common.{sym, subst, length}
use Rattle.sv_form.specs.declared.node.Linear.TheVariants.{AtMost, Equal}
use Rattle.sv_term_forms.specs.NextTerms.{IsNamedBelow}
use Rattle.sv_term_forms.specs.KeptNodes.{Keeps}
use Rattle.sv_term_forms.proofs.NextNodes.{keeps_sum, keeps_difference, keeps_at_most, keeps_equal}
use Rattle.sv_term_forms.proofs.keeping.kept_of.Goals as goal

pub returns-in-Literal-clause-keeps : goal.returns-in-Literal-clause-keeps
returns-in-Literal-clause-keeps c =
    subst (λ node. Keeps c.args.nodes.now node c.kept_literal.result) (sym c.in-Literal.is) (c.kept_literal.ensures c.args.nodes.now)

pub returns-in-Sum-clause-keeps : goal.returns-in-Sum-clause-keeps
returns-in-Sum-clause-keeps c =
    subst (λ node. Keeps c.args.nodes.now node c.kept_join.result) (sym c.in-Sum.is)
    (keeps_sum c.args.nodes.now c.in-Sum.a c.in-Sum.b c.kept_join.result (subst (IsNamedBelow (length c.args.nodes.now)) c.in-Sum.is c.requires.0) c.kept_join.ensures.join)

pub returns-in-Difference-clause-keeps : goal.returns-in-Difference-clause-keeps
returns-in-Difference-clause-keeps c =
    subst (λ node. Keeps c.args.nodes.now node c.kept_join-in-Difference.result) (sym c.in-Difference.is)
    (keeps_difference c.args.nodes.now c.in-Difference.a c.in-Difference.b c.kept_join-in-Difference.result
    (subst (IsNamedBelow (length c.args.nodes.now)) c.in-Difference.is c.requires.0) c.kept_join-in-Difference.ensures.join)

pub returns-in-AtMost-clause-keeps : goal.returns-in-AtMost-clause-keeps
returns-in-AtMost-clause-keeps c =
    subst (λ node. Keeps c.args.nodes.now node (AtMost c.in-AtMost.a c.in-AtMost.b)) (sym c.in-AtMost.is)
    (keeps_at_most c.args.nodes.now c.in-AtMost.a c.in-AtMost.b (subst (IsNamedBelow (length c.args.nodes.now)) c.in-AtMost.is c.requires.0))

pub returns-in-Equal-clause-keeps : goal.returns-in-Equal-clause-keeps
returns-in-Equal-clause-keeps c =
    subst (λ node. Keeps c.args.nodes.now node (Equal c.in-Equal.a c.in-Equal.b)) (sym c.in-Equal.is)
    (keeps_equal c.args.nodes.now c.in-Equal.a c.in-Equal.b (subst (IsNamedBelow (length c.args.nodes.now)) c.in-Equal.is c.requires.0))
