use Rattle.sv_pattern.proofs.NumberedTrees.{argument_some, argument_none}
use Rattle.sv_pattern.proofs.related.is_argument.Goals as goal

pub returns-in-Some : goal.returns-in-Some
returns-in-Some g c =
    argument_some (g.T.TermNumbers.trees c.args.terms.now) c.is_sound.ensures.apart c.args-2.result.now c.args.t c.args.k c.args.n c.in-Some.own c.requires.0 c.requires.1 c.args-2.ensures c.in-Some.ensures

pub returns-in-None : goal.returns-in-None
returns-in-None g c =
    (λ h. cc h, λ i. absurd (argument_none (g.T.TermNumbers.trees c.args.terms.now) c.args-2.result.now c.args.t c.args.k c.args.n c.args-2.ensures c.in-None.ensures i))
