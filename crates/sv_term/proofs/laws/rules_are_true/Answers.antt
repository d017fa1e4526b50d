use Rattle.sv_term.proofs.FactRuleTest.{rules_are_true}
use Rattle.sv_term.proofs.laws.rules_are_true.Goals as goal

pub returns : goal.returns
returns c = rules_are_true
