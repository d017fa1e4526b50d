use Rattle.std.proofs.Common.{arith}
use Rattle.std.proofs.lemmas.Grind.{common_steps}
use Rattle.sv_visit_decl.proofs.functions.walk_modifier_words.Goals as goal

pub loop-w-init : goal.loop-w-init
loop-w-init g c = grind (arith, common_steps)

pub offset_bounds-list-w-index : goal.offset_bounds-list-w-index
offset_bounds-list-w-index g c = grind (arith, common_steps)

pub returns-in_err-walk_modifier_word : goal.returns-in_err-walk_modifier_word
returns-in_err-walk_modifier_word g c = grind (arith, common_steps)

pub loop-w-preserved : goal.loop-w-preserved
loop-w-preserved g c = grind (arith, common_steps)

pub returns : goal.returns
returns g c = grind (arith, common_steps)
