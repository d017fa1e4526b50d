use Rattle.std.proofs.Common.{◌≡◌, drop}
use Rattle.sv_lines.specs.Lines.{takes}
use Rattle.sv_lines.proofs.lines.free.Given as goal

abbrev pub invariant-loop-list : goal.invariant-loop-list
invariant-loop-list l = takes l.c (drop l.list-index l.lists) ≡ takes l.c l.lists
