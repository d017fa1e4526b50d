use Rattle.std.proofs.Common.{drop, map}
use Rattle.std.specs.List.{Contains}
use Rattle.sv_cert.specs.PlainLogs.{plain_row}
use Rattle.sv_lin.specs.UnderWay.{row_made}
use Rattle.sv_lin.proofs.work.is_made.Given as goal

abbrev pub invariant-loop-other : goal.invariant-loop-other
invariant-loop-other l = Contains (map row_made l.made) (plain_row l.row) → Contains (map row_made (drop l.other-index l.made)) (plain_row l.row)
