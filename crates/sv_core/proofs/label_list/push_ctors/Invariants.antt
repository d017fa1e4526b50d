use Rattle.std.proofs.Common.{◌≡◌, take, map}
use Rattle.sv_core.specs.PlainCore.{plain_ctor}
use Rattle.sv_core.specs.CheckWalk.{after_ctors}
use Rattle.sv_core.proofs.label_list.push_ctors.Given as goal

abbrev pub invariant-loop-k : goal.invariant-loop-k
invariant-loop-k l = l.found.items ≡ after_ctors l.tally (map plain_ctor (take l.k-index l.k-items)) l.initial.found.items
