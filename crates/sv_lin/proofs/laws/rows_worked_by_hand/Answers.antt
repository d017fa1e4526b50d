use Rattle.sv_lin.proofs.ByHand.{worked}
use Rattle.sv_lin.proofs.laws.rows_worked_by_hand.Goals as goal

pub returns : goal.returns
returns c = worked
