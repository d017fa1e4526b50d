use Rattle.std.proofs.Common.{◌∙◌, arith}
use Rattle.std.proofs.lemmas.Grind.{common_steps}
use Rattle.sv_term.specs.Banks.{term}
use Rattle.sv_goal_room.proofs.GoalOrder.{has_number, number_is}
use Rattle.sv_goal_room.proofs.Filling.{goal_there, goal_number}
use Rattle.sv_goal_room.proofs.room.fill.Goals as goal

pub of-requires : goal.of-requires
of-requires c = c.requires

pub filled-requires : goal.filled-requires
filled-requires c = record { goal = term c.args.bank.now c.args.goal; terms = c.in_ok-order.ensures.terms; within = c.in_ok-order.ensures.within }

pub unwrap-goal-requires : goal.unwrap-goal-requires
unwrap-goal-requires c = has_number c.in_ok-order.order c.args.goal c.number_of.result c.number_of.ensures
    (goal_there c.args.bank.now c.is_sound.ensures.term_number c.args.goal c.in_ok-order.order c.in_ok-order.ensures.terms c.in_ok-order.ensures.within c.requires)

pub returns-clause-terms : goal.returns-clause-terms
returns-clause-terms c = c.in_ok-terms.ensures.terms ∙ c.in_ok-order.ensures.terms

pub returns-clause-goal : goal.returns-clause-goal
returns-clause-goal c = goal_number c.args.bank.now c.in_ok-order.order c.args.more c.in_ok-terms.terms c.in_ok-terms.ensures c.args.goal
    c.unwrap-goal.result (number_is c.in_ok-order.order c.args.goal c.number_of.result c.number_of.ensures c.unwrap-goal.result (grind (arith, common_steps)))

pub returns-clause-args : goal.returns-clause-args
returns-clause-args c = c.in_ok-terms.ensures.args

pub returns-clause-sorts : goal.returns-clause-sorts
returns-clause-sorts c = c.in_ok-terms.ensures.sorts

pub returns-clause-room : goal.returns-clause-room
returns-clause-room c = c.in_ok-terms.ensures.room

pub returns-in_err-order-clause-terms : goal.returns-in_err-order-clause-terms
returns-in_err-order-clause-terms c = grind (arith, common_steps)

pub returns-in_err-order-clause-goal : goal.returns-in_err-order-clause-goal
returns-in_err-order-clause-goal c = grind (arith, common_steps)

pub returns-in_err-order-clause-args : goal.returns-in_err-order-clause-args
returns-in_err-order-clause-args c = grind (arith, common_steps)

pub returns-in_err-order-clause-sorts : goal.returns-in_err-order-clause-sorts
returns-in_err-order-clause-sorts c = grind (arith, common_steps)

pub returns-in_err-order-clause-room : goal.returns-in_err-order-clause-room
returns-in_err-order-clause-room c = grind (arith, common_steps)

pub returns-in_err-terms-clause-terms : goal.returns-in_err-terms-clause-terms
returns-in_err-terms-clause-terms c = grind (arith, common_steps)

pub returns-in_err-terms-clause-goal : goal.returns-in_err-terms-clause-goal
returns-in_err-terms-clause-goal c = grind (arith, common_steps)

pub returns-in_err-terms-clause-args : goal.returns-in_err-terms-clause-args
returns-in_err-terms-clause-args c = grind (arith, common_steps)

pub returns-in_err-terms-clause-sorts : goal.returns-in_err-terms-clause-sorts
returns-in_err-terms-clause-sorts c = grind (arith, common_steps)

pub returns-in_err-terms-clause-room : goal.returns-in_err-terms-clause-room
returns-in_err-terms-clause-room c = grind (arith, common_steps)
