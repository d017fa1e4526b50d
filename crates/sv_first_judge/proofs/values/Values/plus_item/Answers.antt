use Rattle.std.proofs.Common.{◌≡◌, sym, ap, ◌∙◌, arith}
use Rattle.std.proofs.lemmas.Result.{IfOk-weaker}
use Rattle.sv_first_judge.specs.declared.row.Row.{Row}
use Rattle.sv_first_judge.specs.LinearForm.{LinearForm, plus}
use Rattle.sv_first_judge.specs.Rows.{AddsForm, form_of, weight_of}
use Rattle.sv_first_judge.specs.Assignments.{count_of, form_in, most_of, start_form}
use Rattle.sv_first_judge.proofs.WeightLemmas.{number-le-most_after, one-le-most_after}
use Rattle.sv_first_judge.proofs.values.Values.plus_item.Goals as goal

pub plus_number-requires : goal.plus_number-requires
plus_number-requires c = omega (arith, number-le-most_after c.in-Number.n (count_of c.args.self.now) (rw c.in-Number.is at c.requires.small))

pub plus_start-requires : goal.plus_start-requires
plus_start-requires c = omega (arith, one-le-most_after (count_of c.args.self.now))

pub returns-in-Number : goal.returns-in-Number
returns-in-Number c = record {
  form = rw c.in-Number.is c.plus_number.ensures.form;
  weight = omega (arith, c.plus_number.ensures.weight, number-le-most_after c.in-Number.n (count_of c.args.self.now) (rw c.in-Number.is at c.requires.small));
}

pub returns-in-None : goal.returns-in-None
returns-in-None c =
    let values = c.args.self.now in
    let start = start_form values.start c.in-Variable.v in
    let form = form_in values c.args.item in
    let same : start ≡ form = rw c.in-Variable.is (sym c.in-None.ensures) in
    IfOk-weaker c.plus_start.result (AddsForm c.args.sum start 1) (AddsForm c.args.sum form (most_of values)) (λ (row : Row) h. record {
      form = h.form ∙ ap (λ (f : LinearForm). plus (form_of c.args.sum) f) same;
      weight = omega (arith, h.weight, one-le-most_after (count_of values));
    }) c.plus_start.ensures
