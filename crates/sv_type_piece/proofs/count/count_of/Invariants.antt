use Rattle.std.proofs.Common.{◌≡◌, ◌+◌, drop}
use Rattle.sv_type_piece.specs.DeclaredTypes.{count_of}
use Rattle.sv_type_piece.proofs.count.count_of.Given as goal

abbrev pub invariant-loop-d : goal.invariant-loop-d
invariant-loop-d l = l.count + count_of l.k (drop l.d-index l.list) ≡ count_of l.k l.list
