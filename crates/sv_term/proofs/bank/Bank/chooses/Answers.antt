use Rattle.sv_term.proofs.KindTests.{both_say}
use Rattle.sv_term.proofs.bank.Bank.chooses.Goals as goal

pub returns : goal.returns
returns c = both_say c.is_truth-left.result c.are_kin-right.result c.both.result c.is_truth-left.ensures c.are_kin-right.ensures c.both.ensures
