use Rattle.std.proofs.Common.{◌≡◌, drop}
use Rattle.sv_seen.specs.NameMeanings.{has_external}
use Rattle.sv_seen.proofs.declared.has_external.Given as goal

abbrev pub invariant-loop-w : goal.invariant-loop-w
invariant-loop-w l = has_external (drop l.w-index l.words) ≡ has_external l.words
