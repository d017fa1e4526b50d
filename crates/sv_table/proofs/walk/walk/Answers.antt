use Rattle.std.proofs.Common.{refl}
use Rattle.sv_table.proofs.ChainLaws.{starts, next}
use Rattle.sv_table.proofs.walk.walk.Goals as goal

pub loop-at-init : goal.loop-at-init
loop-at-init c = (c.requires, starts c.args.codes.now c.args.links.now c.args.start c.args.code c.requires)

pub loop-at-smaller : goal.loop-at-smaller
loop-at-smaller c = (next c.args.codes.now c.args.links.now c.args.start c.args.code c.loop-at.invariant.0 c.loop-at.at _ c.loop-at-test.true c.loop-at.invariant.1 c.if-codes-at.false refl).1

pub loop-at-preserved : goal.loop-at-preserved
loop-at-preserved c = (c.loop-at.invariant.0, (next c.args.codes.now c.args.links.now c.args.start c.args.code c.loop-at.invariant.0 c.loop-at.at _ c.loop-at-test.true c.loop-at.invariant.1 c.if-codes-at.false refl).0)
