use Rattle.sv_first_form.proofs.SumParts.{further_reads}
use Rattle.sv_first_form.proofs.parse.sum.further.Goals as goal

pub returns : goal.returns
returns c = further_reads _ c.item.result _ c.in_ok-expect.ensures c.item.ensures
