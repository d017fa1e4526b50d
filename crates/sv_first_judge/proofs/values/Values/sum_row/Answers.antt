use Rattle.std.proofs.Common.{arith}
use Rattle.sv_first_judge.specs.Assignments.{values_of, count_of}
use Rattle.sv_first_judge.specs.Rows.{form_of, weight_of}
use Rattle.sv_first_form.specs.declared.contract.Item.TheVariants.{Variable}
use Rattle.sv_first_judge.proofs.FormLemmas.{adds_up_from_zero, adds_up_more, adds_up_all}
use Rattle.sv_first_judge.proofs.WeightLemmas.{room_for_item, weight_of_four}
use Rattle.sv_first_judge.proofs.values.Values.sum_row.Goals as goal

pub loop-item-init : goal.loop-item-init
loop-item-init c = record {
  form = adds_up_from_zero (values_of c.args.self.now) c.args.items.now (form_of c.zero-sum.result) c.zero-sum.ensures.form;
  weight = omega arith;
}

pub plus_item-requires-clause-room : goal.plus_item-requires-clause-room
plus_item-requires-clause-room c =
    let values = c.args.self.now in
    room_for_item (count_of values) c.loop-item.item-index (weight_of c.loop-item.sum) values.few (omega arith) c.loop-item.invariant.weight

pub loop-item-preserved : goal.loop-item-preserved
loop-item-preserved c =
    let h = c.in_ok-sum.ensures in
    record {
      form = adds_up_more (values_of c.args.self.now) c.args.items.now (form_of c.loop-item.sum) (form_of c.in_ok-sum.sum) c.loop-item.item-index (Variable 0) (omega arith) c.loop-item.invariant.form h.form;
      weight = omega (arith, h.weight, c.loop-item.invariant.weight);
    }

pub returns-clause-form : goal.returns-clause-form
returns-clause-form c =
    adds_up_all (values_of c.args.self.now) c.args.items.now (form_of c.loop-item.sum) c.loop-item.item-index (omega arith) c.loop-item.invariant.form

pub returns-clause-weight : goal.returns-clause-weight
returns-clause-weight c =
    let values = c.args.self.now in
    weight_of_four (count_of values) c.loop-item.item-index (weight_of c.loop-item.sum) (omega arith) c.loop-item.invariant.weight
