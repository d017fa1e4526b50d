use Rattle.std.proofs.Common.{subst, ◌∙◌, ap, ◌&&◌}
use Rattle.sv_term.specs.Banks.{IsSound}
use Rattle.sv_term.proofs.KindTests.{stores_say}
use Rattle.sv_term.proofs.bank.Bank.stores.Goals as goal

pub returns : goal.returns
returns c =
    stores_say c.args.self.now (subst IsSound c.self.view_is c.self.invariant.0) c.args.a c.args.i c.args.v c.kind-array.result c.items_kind-items.result c.kind-value.result c.is_number-index.result c.both.result
    c.kind-array.ensures c.items_kind-items.ensures c.kind-value.ensures c.is_number-index.ensures (c.both.ensures ∙ ap (λ z. c.is_number-index.result && z) c.same-alike.ensures)
