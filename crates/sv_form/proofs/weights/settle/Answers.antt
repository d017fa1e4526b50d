use Rattle.std.proofs.Common.{◌≡◌, ◌+◌, ◌-◌, ◌<◌, ◌≤◌, suc, length, set, get_or, refl, sym, ap, ap₂, ◌∙◌, subst, arith, rules, pos, ◌+ℤ◌}
use Rattle.std.specs.Prelude.{FitsSigned}
use Rattle.std.proofs.lemmas.Int.{wrapping_add_onto}
use mir.Syntax.{w128}
use mir.Val.{to_z}
use Rattle.std.proofs.lemmas.List.{length-set}
use Rattle.sv_form.specs.Nodes.{node_at}
use Rattle.sv_form.specs.TermWeights.{wrapped}
use Rattle.sv_form.proofs.Settling.{settling_starts, settle_on, read_arguments}
use Rattle.sv_form.proofs.weights.settle.Goals as goal

pub loop-left-init : goal.loop-left-init
loop-left-init c = record {
  low = omega arith;
  wide = omega (arith, c.requires.wide, length-set c.args.weights.now c.args.from (pos 1));
  settling = settling_starts c.args.nodes.now c.args.from c.args.weights.now c.requires;
}

pub pass_on-more-requires : goal.pass_on-more-requires
pass_on-more-requires c =
    let within : c.loop-left.left - 1 < length c.args.nodes.now = omega (arith, c.requires.within, c.loop-left.invariant.low) in
    (omega (arith, within, c.loop-left.invariant.wide), read_arguments c.args.nodes.now (c.loop-left.left - 1) _ c.requires.sound within)

pub loop-left-preserved : goal.loop-left-preserved
loop-left-preserved c =
    let within : c.loop-left.left - 1 < length c.args.nodes.now = omega (arith, c.requires.within, c.loop-left.invariant.low) in
    let fits : FitsSigned w128 c.pass_on-more.result = search rules in
    let s = settle_on c.args.nodes.now c.args.from c.loop-left.left (c.loop-left.left - 1) _ c.loop-left.weights (to_z w128 c.loop-left.constant-bits) _ c.pass_on-more.result _
    c.requires.sound within c.loop-left.invariant.wide (omega (arith, c.loop-left.invariant.low, c.loop-left-test.true)) (omega (arith, c.loop-left-test.true)) c.pass_on-more.ensures.0 c.pass_on-more.ensures.1
    (wrapping_add_onto w128 c.loop-left.constant-bits c.pass_on-more.result c.loop-left.auto.constant-fits.fits fits) c.loop-left.invariant.settling in
    record { low = omega (arith, c.loop-left.invariant.low); wide = s.0; settling = s.1 }
