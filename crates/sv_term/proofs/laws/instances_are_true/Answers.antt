use Rattle.sv_term.proofs.FactRules.{rules_true}
use Rattle.sv_term.proofs.laws.instances_are_true.Goals as goal

pub returns : goal.returns
returns c = rules_true
