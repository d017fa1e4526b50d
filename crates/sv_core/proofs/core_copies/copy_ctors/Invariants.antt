use Rattle.std.proofs.Common.{◌≡◌, take}
use Rattle.sv_core.proofs.core_copies.copy_ctors.Given as goal

abbrev pub invariant-loop-k : goal.invariant-loop-k
invariant-loop-k l = l.copies ≡ take l.k-index l.k-items
