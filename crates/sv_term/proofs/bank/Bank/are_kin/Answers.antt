use Rattle.std.proofs.Common.{subst}
use Rattle.sv_term.specs.Banks.{IsSound}
use Rattle.sv_term.proofs.KindTests.{kin_says}
use Rattle.sv_term.proofs.bank.Bank.are_kin.Goals as goal

pub returns : goal.returns
returns c = kin_says c.args.self.now (subst IsSound c.self.view_is c.self.invariant.0) c.args.a c.args.b c.kind-left.result c.kind-right.result c.same.result c.kind-left.ensures c.kind-right.ensures c.same.ensures
