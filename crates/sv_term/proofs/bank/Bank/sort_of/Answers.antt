use Rattle.std.proofs.Common.{subst, sym, ◌∙◌, ◌≡◌}
use Rattle.sv_term.specs.declared.node.SortId.{SortId}
use Rattle.sv_term.specs.Terms.{sort_of}
use Rattle.sv_term.specs.Banks.{IsKind, term}
use Rattle.sv_term.proofs.Keyed.{entry_at}
use Rattle.sv_term.proofs.Distinct.{sorts_apart}
use Rattle.sv_term.proofs.bank.Bank.sort_of.Goals as goal

pub returns-clause-kind : goal.returns-clause-kind
returns-clause-kind c =
    let e = entry_at c.self.inside.nodes.entries c.args.number.0 c.index.result.now c.index.ensures in
    subst (λ b. IsKind b c.index.result.now (sort_of (term b c.args.number))) c.self.view_is (c.self.invariant.1 c.args.number (e.0, c.index.result.now) e.1)

pub returns-clause-only : goal.returns-clause-only
returns-clause-only c =
    let e = entry_at c.self.inside.nodes.entries c.args.number.0 c.index.result.now c.index.ensures in
    let own = c.self.invariant.1 c.args.number (e.0, c.index.result.now) e.1 in
    subst (λ b. (k : SortId) → IsKind b k (sort_of (term b c.args.number)) → k ≡ c.index.result.now) c.self.view_is
    (λ k i. sorts_apart _ c.self.invariant.0 k c.index.result.now i.within own.within (i.is ∙ sym own.is))
