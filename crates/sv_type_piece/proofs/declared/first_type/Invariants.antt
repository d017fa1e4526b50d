use Rattle.std.proofs.Common.{◌≡◌, drop}
use Rattle.sv_type_piece.specs.DeclaredTypes.{first_type}
use Rattle.sv_type_piece.proofs.declared.first_type.Given as goal

abbrev pub invariant-loop-h : goal.invariant-loop-h
invariant-loop-h l = first_type l.text (drop l.h-index l.hits) ≡ first_type l.text l.hits
