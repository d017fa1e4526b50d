use Rattle.std.proofs.Common.{◌≡◌, ◌++◌, drop, map}
use Rattle.sv_plain.specs.PlainExprs.{lengths}
use Rattle.sv_plain.specs.ExprFolds.{plain_dimension}
use Rattle.sv_decl.specs.TypePieces.{brackets}
use Rattle.sv_decl.proofs.pieces.add_brackets.Given as goal

abbrev pub invariant-loop-d : goal.invariant-loop-d
invariant-loop-d l = l.pieces ++ brackets (lengths (map plain_dimension (drop l.d-index l.list))) ≡ l.fn.pieces ++ brackets (lengths (map plain_dimension l.list))
