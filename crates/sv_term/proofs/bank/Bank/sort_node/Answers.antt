use Rattle.std.proofs.Common.{subst, sym, ap, ◌∙◌, slice_get, Some, ◌≡◌}
use Rattle.std.specs.Option.{option_map}
use Rattle.sv_term.specs.Banks.{IsPlacedSort, row_of}
use Rattle.sv_term.proofs.Keyed.{get_map}
use Rattle.sv_term.proofs.bank.Bank.sort_node.Goals as goal

pub returns-clause-placed : goal.returns-clause-placed
returns-clause-placed c =
    let e : slice_get c.self.inside.sorts.keys c.args.number.0 ≡ Some c.unwrap.result.now =
    sym c.get_index.ensures.key ∙ ap (λ o. option_map (λ x. x.now) o) c.unwrap.ensures in
    subst (λ b. IsPlacedSort b c.args.number (row_of c.unwrap.result.now)) c.self.view_is
    (c.self.invariant.0.sorts c.args.number (row_of c.unwrap.result.now) (get_map row_of c.self.inside.sorts.keys c.args.number.0 c.unwrap.result.now e))
