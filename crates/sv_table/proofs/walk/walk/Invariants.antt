use Rattle.sv_table.specs.Chains.{LeadsDown}
use Rattle.sv_table.proofs.ChainLaws.{Walks}
use Rattle.sv_table.proofs.walk.walk.Given as goal

-- what is known down to `at`
abbrev pub invariant-loop-at : goal.invariant-loop-at
invariant-loop-at l = (d : LeadsDown l.codes l.links l.start l.code) × Walks d.width l.codes l.start l.code l.at

abbrev pub decreases-loop-at : goal.decreases-loop-at
decreases-loop-at l = l.at
