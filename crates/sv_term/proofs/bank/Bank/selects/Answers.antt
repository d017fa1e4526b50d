use Rattle.sv_term.proofs.KindTests.{both_say}
use Rattle.sv_term.proofs.bank.Bank.selects.Goals as goal

pub returns : goal.returns
returns c = both_say c.is_array-left.result c.is_number-right.result c.both.result c.is_array-left.ensures c.is_number-right.ensures c.both.ensures
