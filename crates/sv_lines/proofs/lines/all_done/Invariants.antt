use Rattle.std.proofs.Common.{◌≡◌, drop}
use Rattle.sv_lines.specs.Lines.{all_empty}
use Rattle.sv_lines.proofs.lines.all_done.Given as goal

abbrev pub invariant-loop-list : goal.invariant-loop-list
invariant-loop-list l = all_empty (drop l.list-index l.lists) ≡ all_empty l.lists
