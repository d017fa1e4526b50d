use Rattle.std.proofs.Common.{◌≤◌, length, take}
use Rattle.sv_goal_room.specs.GoalFilling.{HaveSorts}
use Rattle.sv_goal_room.proofs.size.sorts_in.Given as goal

abbrev pub invariant-loop-id : goal.invariant-loop-id
invariant-loop-id l = (l.count ≤ length l.bank.sorts) × HaveSorts l.bank (take l.id-index l.ids) l.count
