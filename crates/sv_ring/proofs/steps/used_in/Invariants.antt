use Rattle.std.proofs.Common.{◌≡◌, drop, ◌++◌}
use Rattle.std.specs.List.{filter_map}
use Rattle.sv_ring.specs.RingSteps.{used_in}
use Rattle.sv_ring.proofs.steps.used_in.Given as goal

abbrev pub invariant-loop-u : goal.invariant-loop-u
invariant-loop-u l = l.used ++ filter_map (used_in l.span) (drop l.u-index l.uses) ≡ filter_map (used_in l.span) l.uses
