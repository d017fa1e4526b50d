use Rattle.sv_rule.proofs.Order.{in_order}
use Rattle.sv_rule.proofs.laws.faults_are_ordered.Goals as goal

pub returns : goal.returns
returns c = in_order
