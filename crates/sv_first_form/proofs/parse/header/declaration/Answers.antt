use Rattle.sv_first_form.proofs.Sequences.{both_first}
use Rattle.sv_first_form.proofs.SumParts.{exact_precedes, text_precedes}
use Rattle.sv_first_form.proofs.WholeParts.{declaration_first}
use Rattle.sv_first_form.proofs.parse.header.declaration.Goals as goal

pub returns : goal.returns
returns c = declaration_first (both_first (exact_precedes _ _) c.in_ok-expect.ensures (both_first (text_precedes _ _) c.in_ok-name.ensures c.in_ok-expect-2.ensures))
