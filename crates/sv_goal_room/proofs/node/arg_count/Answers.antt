use Rattle.std.proofs.Common.{◌∙◌, sym, arith}
use Rattle.std.proofs.lemmas.Grind.{common_steps}
use Rattle.std.proofs.lemmas.Option.{slice_get_within}
use Rattle.sv_goal_room.proofs.GoalOrder.{past_end}
use Rattle.sv_goal_room.proofs.node.arg_count.Goals as goal

pub loop-count-init : goal.loop-count-init
loop-count-init c = omega arith

pub overflow_add-count : goal.overflow_add-count
overflow_add-count c = grind (arith, common_steps)

pub loop-count-smaller : goal.loop-count-smaller
loop-count-smaller c = let w = slice_get_within _ c.loop-count.count _ (sym c.arg.ensures.is ∙ c.in-Some.is) in omega (arith, w)

pub loop-count-preserved : goal.loop-count-preserved
loop-count-preserved c = let w = slice_get_within _ c.loop-count.count _ (sym c.arg.ensures.is ∙ c.in-Some.is) in omega (arith, w)

pub returns : goal.returns
returns c = let w = past_end _ c.loop-count.count (sym c.arg.ensures.is ∙ c.in_default.is) in let i = c.loop-count.invariant in omega (arith, w, i)
