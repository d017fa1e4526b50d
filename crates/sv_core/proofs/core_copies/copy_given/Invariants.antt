use Rattle.std.proofs.Common.{◌≡◌, take}
use Rattle.sv_core.proofs.core_copies.copy_given.Given as goal

abbrev pub invariant-loop-g : goal.invariant-loop-g
invariant-loop-g l = l.copies ≡ take l.g-index l.g-items
