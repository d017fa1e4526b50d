use Rattle.std.proofs.Common.{◌≡◌, ◌++◌, drop}
use Rattle.sv_base.specs.BaseNumbers.{names_of}
use Rattle.sv_base.proofs.numbers.names_of.Given as goal

abbrev pub invariant-loop-c : goal.invariant-loop-c
invariant-loop-c l = l.names ++ names_of (drop l.c-index l.contracts) ≡ names_of l.contracts
