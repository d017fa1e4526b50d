use Rattle.std.proofs.Common.{subst}
use Rattle.sv_term.specs.Banks.{IsSound}
use Rattle.sv_term.proofs.KindTests.{part_says}
use Rattle.sv_term.proofs.bank.Bank.part_matches.Goals as goal

pub returns : goal.returns
returns c = part_says c.args.self.now (subst IsSound c.self.view_is c.self.invariant.0) c.args.part c.args.arg c.kind_of_sort-kind.result c.kind-value.result c.same.result c.kind_of_sort-kind.ensures c.kind-value.ensures c.same.ensures
