use Rattle.std.proofs.Common.{take}
use Rattle.sv_goal_room.specs.GoalFilling.{ArePut}
use Rattle.sv_goal_room.proofs.room.filled.Given as goal

-- the first terms stand in the room
abbrev pub invariant-loop-id : goal.invariant-loop-id
invariant-loop-id l = ArePut l.bank (take l.id-index l.ids) l.initial.terms l.terms
