use Rattle.sv_first_form.proofs.Sequences.{both_first}
use Rattle.sv_first_form.proofs.SumParts.{exact_precedes, text_precedes}
use Rattle.sv_first_form.proofs.WholeParts.{header_first}
use Rattle.sv_first_form.proofs.parse.header.read_header.Goals as goal

pub returns : goal.returns
returns c =
    header_first (both_first (exact_precedes _ _) c.in_ok-expect.ensures (both_first (text_precedes _ _) c.in_ok-name.ensures
    (both_first (exact_precedes _ _) c.in_ok-expect-2.ensures c.in_ok-variables.ensures)))
