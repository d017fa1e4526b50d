use Rattle.std.proofs.Common.{drop}
use Rattle.sv_row.specs.RowParts.{monomials}
use Rattle.sv_row.proofs.Divisions.{IsDivisorSoFar}
use Rattle.sv_row.proofs.division.divisor.Given as goal

abbrev pub invariant-loop-k : goal.invariant-loop-k
invariant-loop-k l = IsDivisorSoFar (monomials l.parts) (monomials (drop l.k-index l.parts)) l.divisor
