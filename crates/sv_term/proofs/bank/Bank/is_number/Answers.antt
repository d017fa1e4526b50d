use Rattle.std.proofs.Common.{subst}
use Rattle.sv_term.specs.Banks.{IsSound}
use Rattle.sv_term.proofs.KindTests.{number_says}
use Rattle.sv_term.proofs.bank.Bank.is_number.Goals as goal

pub returns : goal.returns
returns c = number_says c.args.self.now (subst IsSound c.self.view_is c.self.invariant.0) c.args.a c.kind-kind.result c.same.result c.kind-kind.ensures c.same.ensures
