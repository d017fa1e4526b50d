use Rattle.sv_first_judge.specs.Assignments.{count_of}
use Rattle.sv_first_judge.specs.Rows.{weight_of}
use Rattle.sv_first_judge.proofs.WeightLemmas.{room_for_difference}
use Rattle.sv_first_judge.proofs.values.Values.equation_row.Goals as goal

pub minus-requires : goal.minus-requires
minus-requires c =
    let values = c.args.self.now in
    room_for_difference (count_of values) (weight_of c.in_ok-left.left) (weight_of c.in_ok-right.right) values.few c.in_ok-left.ensures.weight c.in_ok-right.ensures.weight
