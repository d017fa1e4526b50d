use Rattle.std.proofs.Common.{◌≡◌, ◌++◌, drop}
use Rattle.sv_base.specs.BaseNumbers.{numbers_in}
use Rattle.sv_base.proofs.numbers.numbers_in.Given as goal

abbrev pub invariant-loop-c : goal.invariant-loop-c
invariant-loop-c l = l.all ++ numbers_in l.names (drop l.c-index l.contracts) ≡ numbers_in l.names l.contracts
