use Rattle.std.proofs.Common.{◌≡◌, take, map}
use Rattle.sv_core.specs.Checks.{callee_of}
use Rattle.sv_core.specs.PlainCore.{plain_func}
use Rattle.sv_core.proofs.tally.Tally.of.Given as goal

abbrev pub invariant-loop-f : goal.invariant-loop-f
invariant-loop-f l = l.callees ≡ map callee_of (map plain_func (take l.f-index l.f-items))
