use Rattle.std.proofs.Common.{◌≡◌, drop}
use Rattle.sv_log.specs.LogRows.{row}
use Rattle.sv_row.specs.RowParts.{monomials}
use Rattle.sv_force.specs.InForce.{RowOf}
use Rattle.sv_force.specs.Codes.{code_of, code_of_parts}
use Rattle.sv_force.proofs.code.row_code.Given as goal

-- what is left to mix in
abbrev pub invariant-loop-k : goal.invariant-loop-k
invariant-loop-k l = code_of (RowOf (row l.constant (monomials l.parts))) ≡ code_of_parts l.code (monomials (drop l.k-index l.parts))
