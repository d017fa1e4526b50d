use Rattle.std.proofs.Common.{◌-◌, ◌≡◌, ◌≤◌, take}
use Rattle.sv_bank_sorts.specs.SortNumbering.{taken_by_all}
use Rattle.sv_bank_sorts.proofs.need.cells_for.Given as goal

abbrev pub invariant-loop-k : goal.invariant-loop-k
invariant-loop-k l = (l.k ≤ l.count) × (l.sum ≡ taken_by_all (take l.k l.bank.sorts))

abbrev pub decreases-loop-k : goal.decreases-loop-k
decreases-loop-k l = l.count - l.k
