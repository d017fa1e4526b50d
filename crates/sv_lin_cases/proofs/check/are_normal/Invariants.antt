use Rattle.std.proofs.Common.{◌⊎◌, drop, map}
use Rattle.std.specs.List.{Contains}
use Rattle.sv_log.specs.LogEntries.{Row}
use Rattle.sv_cert.specs.PlainLogs.{plain_row}
use Rattle.sv_lin.specs.Eliminations.{IsNormalRow}
use Rattle.sv_lin_cases.proofs.check.are_normal.Given as goal

abbrev pub invariant-loop-row : goal.invariant-loop-row
invariant-loop-row l = (r : Row) → Contains (map plain_row l.rows) r → IsNormalRow r ⊎ Contains (map plain_row (drop l.row-index l.rows)) r
