use Rattle.std.proofs.Common.{subst, sym, ap, ◌∙◌, slice_get, Some, ◌≡◌}
use Rattle.std.specs.Option.{option_map}
use Rattle.sv_term.specs.Banks.{IsPlaced}
use Rattle.sv_term.proofs.Keyed.{key_at}
use Rattle.sv_term.proofs.bank.Bank.node_of.Goals as goal

pub returns-clause-placed : goal.returns-clause-placed
returns-clause-placed c =
    let e : slice_get c.self.inside.nodes.entries c.args.number.0 ≡ Some (c.unwrap.result.0.now, c.unwrap.result.1.now) =
    sym c.get_index.ensures.entry ∙ ap (λ o. option_map (λ p. (p.0.now, p.1.now)) o) c.unwrap.ensures in
    subst (λ b. IsPlaced b c.args.number c.unwrap.result.0.now) c.self.view_is
    (c.self.invariant.0.nodes c.args.number c.unwrap.result.0.now (key_at c.self.inside.nodes.entries c.args.number.0 (c.unwrap.result.0.now, c.unwrap.result.1.now) e))
