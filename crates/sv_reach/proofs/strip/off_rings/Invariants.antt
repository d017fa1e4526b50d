use Rattle.sv_reach.specs.Strips.{to_do}
use Rattle.sv_reach.proofs.Stripping.{Stripped}
use Rattle.sv_reach.proofs.strip.off_rings.Given as goal

abbrev pub invariant-steps : goal.invariant-steps
invariant-steps l = Stripped l.graph l.off

abbrev pub decreases-steps : goal.decreases-steps
decreases-steps l = to_do l.graph l.walk
