use Rattle.std.proofs.Common.{◌≡◌, drop}
use Rattle.sv_lines.specs.Lines.{has}
use Rattle.sv_lines.proofs.lines.contains.Given as goal

abbrev pub invariant-loop-x : goal.invariant-loop-x
invariant-loop-x l = has l.c (drop l.x-index l.list) ≡ has l.c l.list
