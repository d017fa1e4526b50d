use Rattle.std.proofs.Common.{◌≡◌, take, map}
use Rattle.sv_core.specs.PlainCore.{plain_given}
use Rattle.sv_core.specs.CheckWalk.{after_given}
use Rattle.sv_core.proofs.label_list.push_given.Given as goal

abbrev pub invariant-loop-g : goal.invariant-loop-g
invariant-loop-g l = l.found.items ≡ after_given l.tally (map plain_given (take l.g-index l.g-items)) l.initial.found.items
