use Rattle.std.proofs.Common.{drop, map}
use Rattle.sv_gcl.specs.CommandShapes.{shape, shaped}
use Rattle.sv_vc_cases.specs.FormedTests.{AreSettled}
use Rattle.sv_vc_cases.proofs.formed.+settled.Given as goal

abbrev pub invariant-are_settled-loop-cmd : goal.invariant-are_settled-loop-cmd
invariant-are_settled-loop-cmd l = AreSettled l.bank l.vars (shaped (map shape (drop l.cmd-index l.cmds))) → AreSettled l.bank l.vars (shaped (map shape l.cmds))
