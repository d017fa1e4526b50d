use Rattle.std.proofs.Common.{arith}
use Rattle.std.proofs.lemmas.Grind.{common_steps}
use Rattle.sv_plain.proofs.StmtViews.{statement_parts}
use Rattle.sv_forms.proofs.asker.Forms.leave_block.Goals as goal

pub returns : goal.returns
returns c = grind (arith, common_steps, statement_parts)
