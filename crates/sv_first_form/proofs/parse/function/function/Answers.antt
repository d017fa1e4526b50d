use Rattle.sv_first_form.proofs.Sequences.{both_first}
use Rattle.sv_first_form.proofs.SumParts.{exact_precedes, text_precedes}
use Rattle.sv_first_form.proofs.WholeParts.{function_first, acts_precede}
use Rattle.sv_first_form.proofs.parse.function.function.Goals as goal

pub returns : goal.returns
returns c =
    function_first _ (both_first (exact_precedes _ _) c.in_ok-expect.ensures (both_first (text_precedes _ _) c.in_ok-name.ensures
    (both_first (exact_precedes _ _) c.in_ok-expect-2.ensures (both_first (exact_precedes _ _) c.in_ok-expect-3.ensures
    (both_first (exact_precedes _ _) c.in_ok-expect-4.ensures (both_first (exact_precedes _ _) c.in_ok-expect-5.ensures
    (both_first (acts_precede _) c.in_ok-acts.ensures c.in_ok-expect-6.ensures)))))))
