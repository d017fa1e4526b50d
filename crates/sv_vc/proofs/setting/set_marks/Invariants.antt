use Rattle.std.proofs.Common.{◌≡◌, ℕ, ◌<◌, length, map}
use Rattle.sv_gcl.specs.CommandShapes.{shape, shaped}
use Rattle.sv_vc.specs.CodeStates.{marked}
use Rattle.sv_vc.specs.SetVariables.{some_shape_sets}
use Rattle.sv_vc.proofs.setting.set_marks.Given as goal

abbrev pub invariant-loop-x : goal.invariant-loop-x
invariant-loop-x l = (length l.marks ≡ l.x) × ((k : ℕ) → k < l.x → marked l.marks k ≡ some_shape_sets (shaped (map shape l.cmds)) k)
