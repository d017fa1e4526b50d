use Rattle.std.proofs.Common.{◌≡◌, ◌≤◌, length, take}
use Rattle.sv_branch.specs.OpenBranches.{open_around}
use Rattle.sv_branch.specs.Stacks.{stacked}
use Rattle.sv_branch.proofs.branch.open_count.Given as goal

-- the splits behind are in their second half
abbrev pub invariant-loop-count : goal.invariant-loop-count
invariant-loop-count l = (l.count ≤ length l.splits) × (open_around (stacked (take l.count l.splits)) ≡ open_around (stacked l.splits))

abbrev pub decreases-loop-count : goal.decreases-loop-count
decreases-loop-count l = l.count
