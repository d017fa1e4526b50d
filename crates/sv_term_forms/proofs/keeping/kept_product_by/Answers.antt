use Rattle.sv_term_forms.proofs.NextNodes.{node_is, not_literal, keeps_after, keeps_wide_after, keeps_column}
use Rattle.sv_term_forms.proofs.keeping.kept_product_by.Goals as goal

pub returns-in-Literal-clause-keeps : goal.returns-in-Literal-clause-keeps
returns-in-Literal-clause-keeps c =
    let r = c.requires.0 in
    keeps_after c.args.nodes.now c.args.a c.args.b (r.0, r.1) c.in-Literal.number c.kept_join.result r.2 (node_is c.args.nodes.now c.args.b _ _ r.1 c.in-Literal.is) c.kept_join.ensures.join

pub returns-in-Wide-clause-keeps : goal.returns-in-Wide-clause-keeps
returns-in-Wide-clause-keeps c =
    let r = c.requires.0 in
    keeps_wide_after c.args.nodes.now c.args.a c.args.b (r.0, r.1) r.2 (node_is c.args.nodes.now c.args.b _ _ r.1 c.in-Wide.is)

pub returns-in_default : goal.returns-in_default
returns-in_default c =
    let r = c.requires.0 in record {
      blank = (c.requires.1.first_blank, c.requires.1.second_blank);
      keeps = keeps_column c.args.nodes.now c.args.a c.args.b (r.0, r.1) r.2 (not_literal c.args.nodes.now c.args.b _ r.1 c.in_default.not-Literal c.in_default.not-Wide);
    }
