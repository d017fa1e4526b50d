use Rattle.std.proofs.Common.{◌≡◌, take, map}
use Rattle.sv_core.specs.PlainCore.{plain_mod, plain_use}
use Rattle.sv_core.specs.CheckWalk.{after_uses}
use Rattle.sv_core.proofs.label_list.push_uses.Given as goal

abbrev pub invariant-loop-u : goal.invariant-loop-u
invariant-loop-u l = l.found.items ≡ after_uses l.tally (map plain_mod l.mods) (map plain_use (take l.u-index l.u-items)) l.initial.found.items
