use Rattle.std.proofs.Common.{◌≡◌, ◌+◌, drop}
use Rattle.sv_type_piece.specs.DeclaredTypes.{count_in}
use Rattle.sv_type_piece.proofs.count.count_in.Given as goal

abbrev pub invariant-loop-c : goal.invariant-loop-c
invariant-loop-c l = l.count + count_in l.k (drop l.c-index l.contracts) ≡ count_in l.k l.contracts
