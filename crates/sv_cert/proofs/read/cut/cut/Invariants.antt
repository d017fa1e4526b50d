use Rattle.std.proofs.Common.{◌≡◌, take, true}
use Rattle.sv_cert.specs.LogSteps.{has_none}
use Rattle.sv_cert.proofs.read.cut.cut.Given as goal

abbrev pub invariant-loop-i : goal.invariant-loop-i
invariant-loop-i l = has_none l.mark (take l.i l.text) ≡ true
