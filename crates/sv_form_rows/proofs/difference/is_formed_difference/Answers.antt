use Rattle.std.proofs.Common.{rules, ℤ, subst, IsTrue, ◌↔◌}
use Rattle.std.specs.Prelude.{FitsSigned}
use Rattle.std.proofs.lemmas.Int.{to_z-of_z}
use mir.Syntax.{w128}
use Rattle.sv_row.specs.RowParts.{monomials}
use Rattle.sv_form_rows.specs.Questions.{IsGapRow}
use Rattle.sv_form_rows.proofs.Answering.{tells_difference, read}
use Rattle.sv_form_rows.proofs.difference.is_formed_difference.Goals as goal

pub returns-clause-exact : goal.returns-clause-exact
returns-clause-exact c =
    let f : FitsSigned w128 c.settle-one.result = search rules in
    let g : FitsSigned w128 c.settle-other.result = search rules in
    tells_difference c.args.nodes.now c.args.sides.first c.args.sides.second c.settle-one.new.weights c.settle-other.new.weights c.settle-one.result c.settle-other.result c.count_to-count.result
    c.settle-one.ensures c.settle-other.ensures (c.count_to-count.ensures.0, c.count_to-count.ensures.1) (c.requires.0.within, c.requires.1.within) c.requires.0.in_range c.requires.1.in_range
    f g c.args.sides.strict c.args.constant (monomials c.args.parts.now) c.is_gap_row-same.result
    (subst (λ (k : ℤ). IsTrue c.is_gap_row-same.result ↔ IsGapRow (read c.settle-one.result) (read c.settle-other.result) c.args.sides.strict c.settle-one.new.weights c.settle-other.new.weights c.count_to-count.result k (monomials c.args.parts.now))
    (to_z-of_z w128 c.args.constant c.ranges.constant) c.is_gap_row-same.ensures)
