use Rattle.std.proofs.Common.{◌≡◌, drop}
use Rattle.sv_lin.specs.Placing.{point_of}
use Rattle.sv_lin.proofs.place.value_at.Given as goal

abbrev pub invariant-loop-place : goal.invariant-loop-place
invariant-loop-place l = point_of (drop l.place-index l.places) l.column ≡ point_of l.places l.column
