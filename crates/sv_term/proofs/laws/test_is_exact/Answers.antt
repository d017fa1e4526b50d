use Rattle.sv_term.proofs.FactRuleTest.{test_is_exact}
use Rattle.sv_term.proofs.laws.test_is_exact.Goals as goal

pub returns : goal.returns
returns c = test_is_exact
