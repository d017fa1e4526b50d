use Rattle.std.proofs.Common.{◌≡◌, drop}
use Rattle.sv_member.specs.SeenNames.{has_private}
use Rattle.sv_member.proofs.seen.has_private.Given as goal

abbrev pub invariant-loop-w : goal.invariant-loop-w
invariant-loop-w l = has_private (drop l.w-index l.words) ≡ has_private l.words
