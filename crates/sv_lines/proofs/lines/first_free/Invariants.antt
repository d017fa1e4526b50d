use Rattle.std.proofs.Common.{◌≡◌, drop}
use Rattle.sv_lines.specs.Lines.{pick_from, pick}
use Rattle.sv_lines.proofs.lines.first_free.Given as goal

abbrev pub invariant-loop-list : goal.invariant-loop-list
invariant-loop-list l = pick_from l.lists (drop l.list-index l.lists) ≡ pick l.lists
