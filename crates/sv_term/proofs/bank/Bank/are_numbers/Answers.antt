use Rattle.sv_term.proofs.KindTests.{both_say}
use Rattle.sv_term.proofs.bank.Bank.are_numbers.Goals as goal

pub returns : goal.returns
returns c = both_say c.is_number-left.result c.is_number-right.result c.both.result c.is_number-left.ensures c.is_number-right.ensures c.both.ensures
