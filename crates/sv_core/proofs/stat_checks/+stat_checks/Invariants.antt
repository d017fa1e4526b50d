use Rattle.std.proofs.Common.{◌≡◌, take, map}
use Rattle.sv_core.specs.PlainCode.{stmts, arms, plain_stat, plain_arm}
use Rattle.sv_core.specs.CheckWalk.{after_body, after_arms}
use Rattle.sv_core.proofs.stat_checks.+stat_checks.Given as goal

abbrev pub invariant-push_body-loop-s : goal.invariant-push_body-loop-s
invariant-push_body-loop-s l = l.found.items ≡ after_body l.tally (stmts (map plain_stat (take l.s-index l.s-items))) l.initial.found.items

abbrev pub invariant-push_arms-loop-arm : goal.invariant-push_arms-loop-arm
invariant-push_arms-loop-arm l = l.found.items ≡ after_arms l.tally (arms (map plain_arm (take l.arm-index l.arm-items))) l.initial.found.items
