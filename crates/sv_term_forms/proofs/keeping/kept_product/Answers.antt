use Rattle.sv_term_forms.proofs.NextNodes.{node_is, keeps_before, keeps_wide_before}
use Rattle.sv_term_forms.proofs.keeping.kept_product.Goals as goal

pub returns-in-Literal-clause-keeps : goal.returns-in-Literal-clause-keeps
returns-in-Literal-clause-keeps c =
    keeps_before c.args.nodes.now c.args.a c.args.b c.requires.0 c.in-Literal.number c.kept_join.result (node_is c.args.nodes.now c.args.a _ _ c.requires.0.0 c.in-Literal.is) c.kept_join.ensures.join

pub returns-in-Wide-clause-keeps : goal.returns-in-Wide-clause-keeps
returns-in-Wide-clause-keeps c = keeps_wide_before c.args.nodes.now c.args.a c.args.b c.requires.0 (node_is c.args.nodes.now c.args.a _ _ c.requires.0.0 c.in-Wide.is)
