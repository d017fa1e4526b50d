use Rattle.sv_term.proofs.ModelMaking.{gathered_reads}
use Rattle.sv_term.proofs.laws.gathered_reads.Goals as goal

pub returns : goal.returns
returns c = gathered_reads
