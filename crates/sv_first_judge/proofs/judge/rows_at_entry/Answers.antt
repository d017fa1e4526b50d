use Rattle.std.proofs.Common.{ℕ, ap, ◌∙◌, arith}
use Rattle.sv_first_judge.specs.Judging.{equation_form}
use Rattle.sv_first_judge.specs.LinearForm.{LinearForm, variable_form}
use Rattle.sv_first_judge.proofs.PointLemmas.{rows_more}
use Rattle.sv_first_judge.proofs.judge.rows_at_entry.Goals as goal

pub loop-invariant-preserved : goal.loop-invariant-preserved
loop-invariant-preserved c =
    let e = c.invariant-item in
    rows_more (equation_form variable_form) c.loop-invariant.rows.items c.push.new.self.items c.args.invariants.now c.loop-invariant.invariant-index e.result c.in_ok-equation_row.field-0 (omega arith) e.is
    (c.in_ok-equation_row.ensures ∙ ap (λ (values : ℕ → LinearForm). equation_form values e.result) c.new-values.ensures.values) c.loop-invariant.invariant (rw c.in_ok-push.was at c.push.ensures.items)
