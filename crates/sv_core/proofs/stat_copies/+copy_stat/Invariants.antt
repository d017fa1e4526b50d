use Rattle.std.proofs.Common.{◌≡◌, take}
use Rattle.sv_core.proofs.stat_copies.+copy_stat.Given as goal

abbrev pub invariant-copy_body-loop-s : goal.invariant-copy_body-loop-s
invariant-copy_body-loop-s l = l.copies ≡ take l.s-index l.s-items

abbrev pub invariant-copy_arms-loop-arm : goal.invariant-copy_arms-loop-arm
invariant-copy_arms-loop-arm l = l.copies ≡ take l.arm-index l.arm-items
