use Rattle.sv_checker.proofs.PartTerms.{one_more, one_lacks}
use Rattle.sv_checker.proofs.parts.are_terms.Goals as goal

pub returns-then-not-is_there : goal.returns-then-not-is_there
returns-then-not-is_there c = (
  λ e. cc e,
  λ h. absurd (one_lacks c.args.terms c.args.parts.now c.loop-part.part-index c.part-item.result c.loop-part-test.true c.part-item.is c.loop-part.invariant (λ g. cc (c.if-not-is_there.true, c.is_there.ensures.1 g)) h),
)

pub loop-part-preserved : goal.loop-part-preserved
loop-part-preserved c = one_more c.args.terms c.args.parts.now c.loop-part.part-index c.part-item.result c.loop-part-test.true c.part-item.is c.loop-part.invariant (c.is_there.ensures.0 c.if-not-is_there.false)
