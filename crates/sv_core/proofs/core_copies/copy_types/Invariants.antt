use Rattle.std.proofs.Common.{◌≡◌, take}
use Rattle.sv_core.proofs.core_copies.copy_types.Given as goal

abbrev pub invariant-loop-k : goal.invariant-loop-k
invariant-loop-k l = l.infos.items ≡ take l.k l.types
