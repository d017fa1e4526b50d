use Rattle.std.proofs.Common.{rules, ◌≡◌, sym, subst}
use Rattle.sv_reach.specs.Strips.{left}
use Rattle.sv_reach.proofs.Stripping.{Stripped, left_strips}
use Rattle.sv_reach.proofs.strip.off_rings.Goals as goal

pub steps-preserved : goal.steps-preserved
steps-preserved c =
    let g = c.args.graph.now in
    let e : c.leave.new.off ≡ left g c.in-Leave.node c.steps.off = search rules in
    subst (Stripped g) (sym e) (left_strips g c.in-Leave.node c.steps.off c.steps.invariant)
