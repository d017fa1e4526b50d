use Rattle.std.proofs.Common.{drop, map}
use Rattle.std.specs.List.{Contains}
use Rattle.sv_cert.specs.PlainLogs.{plain_row}
use Rattle.sv_lin.proofs.work.is_given.Given as goal

abbrev pub invariant-loop-other : goal.invariant-loop-other
invariant-loop-other l = Contains (map plain_row l.rows) (plain_row l.row) → Contains (map plain_row (drop l.other-index l.rows)) (plain_row l.row)
