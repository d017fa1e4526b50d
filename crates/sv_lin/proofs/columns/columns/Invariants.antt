use Rattle.std.proofs.Common.{◌≡◌, take}
use Rattle.sv_lin.specs.UnderWay.{given}
use Rattle.sv_lin.specs.UnderWay.{columns_among}
use Rattle.sv_lin.proofs.columns.columns.Given as goal

abbrev pub invariant-loop-row : goal.invariant-loop-row
invariant-loop-row l = l.columns.items ≡ columns_among (given (take l.row-index l.rows))
