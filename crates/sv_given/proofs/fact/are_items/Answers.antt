use Rattle.std.proofs.Common.{refl, arith}
use Rattle.sv_given.proofs.Items.{some_item, each_item}
use Rattle.sv_given.proofs.fact.are_items.Goals as goal

pub returns-then-k-count : goal.returns-then-k-count
returns-then-k-count c = (λ e. cc e, λ h. absurd (some_item c.args.from.now c.args.count c.loop-k.k-index c.loop-k-test.true c.if-k-count.true h))

pub returns : goal.returns
returns c = (λ e. each_item c.args.from.now c.args.count (λ k l. let t = c.loop-k-test.false in c.loop-k.invariant k (omega (arith, l, t))), λ h. refl)
