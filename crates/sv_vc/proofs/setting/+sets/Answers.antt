use Rattle.std.proofs.Common.{◌∙◌, sym}
use Rattle.sv_vc.proofs.SettingSteps.{sets_here, sets_next, sets_end}
use Rattle.sv_vc.proofs.setting.+sets.Goals as goal

pub some_sets-returns-then-sets : goal.some_sets-returns-then-sets
some_sets-returns-then-sets t c = sets_here c.args.cmds.now c.loop-cmd.cmd-index c.args.x c.cmd-item.result _ c.loop-cmd-test.true c.cmd-item.is (sym c.sets.ensures ∙ c.if-sets.true) c.loop-cmd.invariant

pub some_sets-loop-cmd-preserved : goal.some_sets-loop-cmd-preserved
some_sets-loop-cmd-preserved t c = sets_next c.args.cmds.now c.loop-cmd.cmd-index c.args.x c.cmd-item.result _ c.loop-cmd-test.true c.cmd-item.is (sym c.sets.ensures ∙ c.if-sets.false) c.loop-cmd.invariant

pub some_sets-returns : goal.some_sets-returns
some_sets-returns t c = sets_end c.args.cmds.now c.loop-cmd.cmd-index c.args.x _ c.loop-cmd-test.false c.loop-cmd.invariant
