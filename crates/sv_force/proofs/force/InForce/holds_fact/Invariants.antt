use Rattle.sv_force.specs.InForce.{FactOn}
use Rattle.sv_force.proofs.Seeking.{Sought, seen}
use Rattle.sv_force.proofs.force.InForce.holds_fact.Given as goal

-- the item stands nowhere from there on
abbrev pub invariant-loop-at : goal.invariant-loop-at
invariant-loop-at l = Sought l.self.items (FactOn l.sign l.term) l.at

abbrev pub decreases-loop-at : goal.decreases-loop-at
decreases-loop-at l = seen l.at
