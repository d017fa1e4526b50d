use Rattle.sv_orders.proofs.Reaching.{lines_reach}
use Rattle.sv_orders.proofs.laws.lines_reach.Goals as goal

pub returns : goal.returns
returns c = lines_reach
