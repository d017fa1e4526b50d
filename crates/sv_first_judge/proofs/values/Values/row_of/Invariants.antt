use Rattle.std.proofs.Common.{◌≡◌, ◌≤◌, MatchOption, take}
use Rattle.sv_first_judge.specs.Assignments.{start_form, forms_after, count_of}
use Rattle.sv_first_judge.specs.Rows.{form_of, weight_of}
use Rattle.sv_first_judge.specs.Weights.{most_after}
use Rattle.sv_first_judge.proofs.values.Values.row_of.Given as goal

abbrev pub invariant-loop-a : goal.invariant-loop-a
invariant-loop-a l =
    let start = start_form l.self.start in
    let now = forms_after start (take l.a-index l.self.assigned) l.variable in
    MatchOption l.newest (now ≡ start l.variable) (λ row. (form_of row.now ≡ now) × (weight_of row.now ≤ most_after (count_of l.self)))
