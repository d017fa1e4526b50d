use Rattle.std.proofs.Common.{take}
use Rattle.sv_first_judge.proofs.Added.{IsAdded}
use Rattle.sv_first_judge.proofs.row.Row.plus.Given as goal

abbrev pub invariant-loop-c : goal.invariant-loop-c
invariant-loop-c l = IsAdded l.initial.self l.self (take l.c-index l.other.columns)
