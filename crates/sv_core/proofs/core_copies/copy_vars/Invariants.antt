use Rattle.std.proofs.Common.{◌≡◌, take}
use Rattle.sv_core.proofs.core_copies.copy_vars.Given as goal

abbrev pub invariant-loop-v : goal.invariant-loop-v
invariant-loop-v l = l.copies ≡ take l.v-index l.v-items
