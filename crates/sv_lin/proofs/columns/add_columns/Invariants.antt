use Rattle.std.proofs.Common.{◌≡◌, ◌++◌, take}
use Rattle.sv_log.specs.LogEntries.{columns}
use Rattle.sv_row.specs.RowParts.{monomials}
use Rattle.sv_lin.proofs.columns.add_columns.Given as goal

abbrev pub invariant-loop-part : goal.invariant-loop-part
invariant-loop-part l = l.columns.items ≡ l.fn.columns.items ++ columns (monomials (take l.part-index l.parts))
