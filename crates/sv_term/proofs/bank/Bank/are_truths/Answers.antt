use Rattle.sv_term.proofs.KindTests.{both_say}
use Rattle.sv_term.proofs.bank.Bank.are_truths.Goals as goal

pub returns : goal.returns
returns c = both_say c.is_truth-left.result c.is_truth-right.result c.both.result c.is_truth-left.ensures c.is_truth-right.ensures c.both.ensures
