use Rattle.std.proofs.Common.{rules}
use Rattle.std.specs.Prelude.{FitsSigned}
use mir.Syntax.{w128}
use Rattle.sv_form_rows.proofs.Answering.{tells_join}
use Rattle.sv_form_rows.proofs.joining.joins.Goals as goal

pub returns-clause-exact : goal.returns-clause-exact
returns-clause-exact c =
    let f : FitsSigned w128 c.settle-one.result = search rules in
    let g : FitsSigned w128 c.settle-other.result = search rules in
    tells_join c.args.nodes.now c.args.a c.args.b c.settle-one.new.weights c.settle-other.new.weights c.settle-one.result c.settle-other.result c.count_to-count.result
    c.settle-one.ensures c.settle-other.ensures (c.count_to-count.ensures.0, c.count_to-count.ensures.1) (c.requires.0.within, c.requires.1.within) c.requires.0.in_range c.requires.1.in_range
    f g c.args.how c.fit_joined-fits.result c.fit_joined-fits.ensures
