use Rattle.std.proofs.Common.{◌≡◌, drop, map}
use Rattle.sv_gcl.specs.CommandShapes.{shape, shaped}
use Rattle.sv_vc.specs.SetVariables.{some_shape_sets}
use Rattle.sv_vc.proofs.setting.+sets.Given as goal

abbrev pub invariant-some_sets-loop-cmd : goal.invariant-some_sets-loop-cmd
invariant-some_sets-loop-cmd l = some_shape_sets (shaped (map shape (drop l.cmd-index l.cmds))) l.x ≡ some_shape_sets (shaped (map shape l.cmds)) l.x
