use Rattle.std.proofs.Common.{◌≡◌, drop}
use Rattle.sv_abstract.specs.BodilessFunctions.{has_public}
use Rattle.sv_abstract.proofs.by_name.has_public.Given as goal

abbrev pub invariant-loop-w : goal.invariant-loop-w
invariant-loop-w l = has_public (drop l.w-index l.words) ≡ has_public l.words
