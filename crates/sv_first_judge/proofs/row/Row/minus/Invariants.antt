use Rattle.std.proofs.Common.{take}
use Rattle.sv_first_judge.proofs.Added.{IsSubtracted}
use Rattle.sv_first_judge.proofs.row.Row.minus.Given as goal

abbrev pub invariant-loop-c : goal.invariant-loop-c
invariant-loop-c l = IsSubtracted l.initial.self l.self (take l.c-index l.other.columns)
