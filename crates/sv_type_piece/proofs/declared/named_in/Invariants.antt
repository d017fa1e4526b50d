use Rattle.std.proofs.Common.{◌≡◌, ◌++◌, drop}
use Rattle.sv_type_piece.specs.DeclaredTypes.{named_from}
use Rattle.sv_type_piece.proofs.declared.named_in.Given as goal

abbrev pub invariant-loop-d : goal.invariant-loop-d
invariant-loop-d l = (l.at ≡ l.d-index) × (l.hits ++ named_from l.name l.c l.at (drop l.d-index l.list) ≡ named_from l.name l.c 0 l.list)
