use Rattle.std.proofs.Common.{take}
use Rattle.sv_lin.specs.UnderWay.{force}
use Rattle.sv_lin.specs.Placing.{ArePlaced}
use Rattle.sv_lin.proofs.point.place_columns.Given as goal

abbrev pub invariant-loop-column : goal.invariant-loop-column
invariant-loop-column l = ArePlaced (force l.rows l.work.made.items) (take l.column-index l.columns) l.places.items
