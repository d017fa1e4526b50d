use Rattle.std.proofs.Common.{drop}
use Rattle.std.specs.List.{Contains}
use Rattle.sv_log.specs.LogEntries.{Row}
use Rattle.sv_log.specs.Logs.{Bound, IsAbsurd}
use Rattle.sv_lin.specs.UnderWay.{given}
use Rattle.sv_lin.proofs.elimination.has_absurd.Given as goal

abbrev pub invariant-loop-row : goal.invariant-loop-row
invariant-loop-row l = (r : Row) → IsAbsurd (Bound r) → Contains (given l.rows) r → Contains (given (drop l.row-index l.rows)) r
