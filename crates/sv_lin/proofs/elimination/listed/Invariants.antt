use Rattle.std.proofs.Common.{◌≡◌, map, take}
use Rattle.sv_lin.specs.EliminationAnswers.{placed_by}
use Rattle.sv_lin.specs.Placing.{placed}
use Rattle.sv_lin.proofs.elimination.listed.Given as goal

abbrev pub invariant-loop-place : goal.invariant-loop-place
invariant-loop-place l = map placed_by l.list.items ≡ map placed (take l.place-index l.places)
