use Rattle.std.proofs.Common.{◌≡◌, ◌++◌, drop}
use Rattle.sv_lines.specs.Lines.{without}
use Rattle.sv_lines.proofs.lines.all_taken.Given as goal

abbrev pub invariant-loop-list : goal.invariant-loop-list
invariant-loop-list l = l.out ++ without l.c (drop l.list-index l.lists) ≡ without l.c l.lists
