use Rattle.sv_orders.proofs.Agreeing.{lines_agree}
use Rattle.sv_orders.proofs.laws.lines_agree.Goals as goal

pub returns : goal.returns
returns c = lines_agree
