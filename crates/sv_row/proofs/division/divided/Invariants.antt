use Rattle.std.proofs.Common.{drop}
use Rattle.sv_row.specs.RowParts.{monomials}
use Rattle.sv_row.proofs.Divisions.{AreQuotients}
use Rattle.sv_row.proofs.division.divided.Given as goal

abbrev pub invariant-loop-k : goal.invariant-loop-k
invariant-loop-k l = AreQuotients l.divisor (monomials l.parts) (monomials (drop l.k-index l.parts)) (monomials l.quotient.items)
