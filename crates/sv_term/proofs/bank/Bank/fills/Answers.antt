use Rattle.std.proofs.Common.{subst, rules}
use Rattle.sv_term.specs.Banks.{IsSound, IsSort}
use Rattle.sv_term.proofs.KindTests.{fills_say}
use Rattle.sv_term.proofs.bank.Bank.fills.Goals as goal

pub returns : goal.returns
returns c =
    let within : IsSort c.args.self.now c.args.number = search rules in
    fills_say c.args.self.now (subst IsSound c.self.view_is c.self.invariant.0) c.args.number c.args.v c.element_kind-items.result c.kind-value.result c.same.result within c.element_kind-items.ensures c.kind-value.ensures c.same.ensures
