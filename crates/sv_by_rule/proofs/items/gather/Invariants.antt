use Rattle.std.proofs.Common.{take}
use Rattle.sv_by_rule.specs.ItemFacts.{AreHeld}
use Rattle.sv_by_rule.proofs.items.gather.Given as goal

abbrev pub invariant-loop-place : goal.invariant-loop-place
invariant-loop-place l = record { held : AreHeld l.force.items (take l.place-index l.from) l.premises.items }
