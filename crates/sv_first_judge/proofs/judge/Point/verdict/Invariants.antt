use Rattle.std.proofs.Common.{take}
use Rattle.std.specs.Prelude.{All}
use Rattle.sv_first_judge.specs.Judging.{IsProved}
use Rattle.sv_first_judge.specs.Points.{known_of}
use Rattle.sv_first_judge.proofs.judge.Point.verdict.Given as goal

abbrev pub invariant-loop-i : goal.invariant-loop-i
invariant-loop-i l = All (IsProved (known_of l.self)) (take l.i l.invariants)
