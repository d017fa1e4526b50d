use Rattle.sv_term.proofs.KindTests.{no_more_parts}
use Rattle.sv_term.proofs.bank.Bank.+parts_match.Goals as goal

pub returns-in-empty : goal.returns-in-empty
returns-in-empty t c = no_more_parts c.args.self.now c.args.parts.now c.args.args.now c.is_empty.result c.in-empty.len_below c.is_empty.ensures
