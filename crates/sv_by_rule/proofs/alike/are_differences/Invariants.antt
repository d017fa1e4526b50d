use Rattle.sv_by_rule.specs.ItemFacts.{IsComparing}
use Rattle.sv_by_rule.proofs.alike.are_differences.Given as goal

abbrev pub invariant-loop-i : goal.invariant-loop-i
invariant-loop-i g l = IsComparing (g.T.TermNumbers.trees l.terms) l.force.items l.from l.xs l.ys l.taken l.i
