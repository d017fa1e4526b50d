use Rattle.std.proofs.Common.{◌≡◌, take}
use Rattle.sv_core.proofs.core_copies.copy_funcs.Given as goal

abbrev pub invariant-loop-f : goal.invariant-loop-f
invariant-loop-f l = l.copies ≡ take l.f-index l.f-items
