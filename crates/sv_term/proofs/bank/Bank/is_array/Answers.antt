use Rattle.sv_term.proofs.KindTests.{array_says}
use Rattle.sv_term.proofs.bank.Bank.is_array.Goals as goal

pub returns : goal.returns
returns c = array_says c.args.self.now c.args.a c.kind-kind.result c.is_arr.result c.kind-kind.ensures c.is_arr.ensures
