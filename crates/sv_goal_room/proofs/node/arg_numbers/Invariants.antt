use Rattle.std.proofs.Common.{◌-◌, suc, length, take}
use Rattle.sv_term.specs.Banks.{args}
use Rattle.sv_goal_room.specs.GoalFilling.{ArePlaces}
use Rattle.sv_goal_room.proofs.node.arg_numbers.Given as goal

-- those so far have their places
abbrev pub invariant-loop-arg : goal.invariant-loop-arg
invariant-loop-arg l = ArePlaces l.terms (take (length l.numbers.items) (args l.node)) l.numbers.items

abbrev pub decreases-loop-arg : goal.decreases-loop-arg
decreases-loop-arg l = suc (length (args l.node)) - length l.numbers.items
