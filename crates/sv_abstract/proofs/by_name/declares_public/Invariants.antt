use Rattle.std.proofs.Common.{◌≡◌, drop}
use Rattle.sv_abstract.specs.BodilessFunctions.{declares_public}
use Rattle.sv_abstract.proofs.by_name.declares_public.Given as goal

abbrev pub invariant-loop-d : goal.invariant-loop-d
invariant-loop-d l = declares_public l.name (drop l.d-index l.list) ≡ declares_public l.name l.list
