use Rattle.std.proofs.Common.{◌≡◌, ◌≤◌, map, take}
use Rattle.sv_first_judge.specs.Assignments.{count_of}
use Rattle.sv_first_judge.specs.Points.{known_of, known_after_acts}
use Rattle.sv_first_judge.specs.Rows.{form_of}
use Rattle.sv_first_judge.proofs.judge.after_acts.Given as goal

abbrev pub invariant-loop-act : goal.invariant-loop-act
invariant-loop-act l = record {
  known : known_of l.point ≡ known_after_acts (map form_of l.hypotheses) (take l.act-index l.acts);
  count : count_of l.point.values ≤ l.act-index;
}
