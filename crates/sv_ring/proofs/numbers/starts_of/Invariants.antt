use Rattle.std.proofs.Common.{◌≡◌, drop, ◌++◌}
use Rattle.sv_ring.specs.RingSteps.{starts_from}
use Rattle.sv_ring.proofs.numbers.starts_of.Given as goal

abbrev pub invariant-loop-c : goal.invariant-loop-c
invariant-loop-c l = l.starts ++ starts_from l.next (drop l.c-index l.contracts) ≡ starts_from 0 l.contracts
