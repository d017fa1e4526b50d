use Rattle.std.proofs.Common.{arith}
use Rattle.std.proofs.lemmas.Grind.{common_steps}
use Rattle.sv_goal_room.specs.GoalFilling.{HaveSorts}
use Rattle.sv_goal_room.proofs.SortsAdded.{have_numbers, taken_by_front}
use Rattle.sv_goal_room.proofs.sorts.sorts_of.Goals as goal

pub returns-clause-size : goal.returns-clause-size
returns-clause-size c = let t = taken_by_front c.args.bank.now.sorts c.in_ok-count.count in grind (arith, common_steps, t)

pub returns-clause-numbers : goal.returns-clause-numbers
returns-clause-numbers c =
    let have : HaveSorts c.args.bank.now c.args.ids.now c.in_ok-count.count = grind (arith, common_steps) in
    have_numbers c.args.bank.now c.args.ids.now c.number_sorts.new.room.cells c.in_ok-count.count c.in_ok-numbers.numbers.items have c.in_ok-numbers.ensures.numbers

pub sorts_in-requires : goal.sorts_in-requires
sorts_in-requires c = c.requires

pub cells_for-requires : goal.cells_for-requires
cells_for-requires c = grind (arith, common_steps)

pub number_sorts-requires-clause-count : goal.number_sorts-requires-clause-count
number_sorts-requires-clause-count c = grind (arith, common_steps)

pub number_sorts-requires-clause-room : goal.number_sorts-requires-clause-room
number_sorts-requires-clause-room c = grind (arith, common_steps)

pub returns-in_err-count-clause-numbers : goal.returns-in_err-count-clause-numbers
returns-in_err-count-clause-numbers c = grind (arith, common_steps)

pub returns-in_err-count-clause-size : goal.returns-in_err-count-clause-size
returns-in_err-count-clause-size c = grind (arith, common_steps)

pub returns-in_err-ok_or-clause-numbers : goal.returns-in_err-ok_or-clause-numbers
returns-in_err-ok_or-clause-numbers c = grind (arith, common_steps)

pub returns-in_err-ok_or-clause-size : goal.returns-in_err-ok_or-clause-size
returns-in_err-ok_or-clause-size c = grind (arith, common_steps)

pub returns-in_err-sorts-clause-numbers : goal.returns-in_err-sorts-clause-numbers
returns-in_err-sorts-clause-numbers c = grind (arith, common_steps)

pub returns-in_err-sorts-clause-size : goal.returns-in_err-sorts-clause-size
returns-in_err-sorts-clause-size c = grind (arith, common_steps)

pub returns-in_err-numbers-clause-numbers : goal.returns-in_err-numbers-clause-numbers
returns-in_err-numbers-clause-numbers c = grind (arith, common_steps)

pub returns-in_err-numbers-clause-size : goal.returns-in_err-numbers-clause-size
returns-in_err-numbers-clause-size c = grind (arith, common_steps)
