use Rattle.sv_log.specs.LogRows.{row}
use Rattle.sv_row.specs.RowParts.{monomials}
use Rattle.sv_force.specs.InForce.{RowOf}
use Rattle.sv_force.proofs.Seeking.{Sought, seen}
use Rattle.sv_force.proofs.force.InForce.holds_row.Given as goal

-- the item stands nowhere from there on
abbrev pub invariant-loop-at : goal.invariant-loop-at
invariant-loop-at l = Sought l.self.items (RowOf (row l.constant (monomials l.parts))) l.at

abbrev pub decreases-loop-at : goal.decreases-loop-at
decreases-loop-at l = seen l.at
