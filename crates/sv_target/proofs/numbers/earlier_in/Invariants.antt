use Rattle.std.proofs.Common.{◌≡◌, ◌+◌, drop}
use Rattle.sv_target.specs.TargetNumbers.{earlier_in}
use Rattle.sv_target.proofs.numbers.earlier_in.Given as goal

abbrev pub invariant-loop-c : goal.invariant-loop-c
invariant-loop-c l = l.sum + earlier_in l.kind l.byte (drop l.c-index l.contracts) ≡ earlier_in l.kind l.byte l.contracts
