use Rattle.std.proofs.Common.{rules, subst, sym, ap, ◌∙◌, slice_get, Some, ◌≡◌, true≢false}
use Rattle.sv_term.specs.Banks.{StandsIn, Stands, tree}
use Rattle.sv_term.proofs.BankLists.{within_get}
use Rattle.sv_term.specs.contracts.node.NodePartialEq.TheImpl.{eq-value}
use Rattle.sv_term.proofs.Keyed.{found_at, no_key_at}
use Rattle.sv_term.proofs.NodeEquality.{node_is, node_self}
use Rattle.indexmap.specs.IndexMap.{keys}
use Rattle.sv_term.proofs.bank.Bank.find.Goals as goal

pub returns : goal.returns
returns c = record {
  node = let f = found_at ((eq-value).it c.args.node.now) c.args.node.now (keys c.self.inside.nodes) c.in_ok-number.number (sym c.in_ok-number.ensures.index) in
      subst (λ b. slice_get b.nodes c.in_ok-number.number ≡ Some c.args.node.now) c.self.view_is (f.1 ∙ ap Some (sym (node_is c.args.node.now f.0 f.2)));
  stands = let f = found_at ((eq-value).it c.args.node.now) c.args.node.now (keys c.self.inside.nodes) c.in_ok-number.number (sym c.in_ok-number.ensures.index) in
      let at : slice_get (keys c.self.inside.nodes) c.in_ok-number.number ≡ Some c.args.node.now = f.1 ∙ ap Some (sym (node_is c.args.node.now f.0 f.2)) in
      subst (λ b. Stands b record { 0 = c.in_ok-number.number } (tree b c.args.node.now)) c.self.view_is record {
        within = within_get (keys c.self.inside.nodes) c.in_ok-number.number c.args.node.now at;
        is = (c.self.invariant.0.nodes record { 0 = c.in_ok-number.number } c.args.node.now at).is;
      };
}

pub returns-in_err-number : goal.returns-in_err-number
returns-in_err-number c = record {
  node = rw c.from_residual.ensures (λ (there : StandsIn c.args.self.now.nodes c.args.node.now).
      true≢false (sym (node_self c.args.node.now) ∙ no_key_at ((eq-value).it c.args.node.now) c.self.inside.nodes.entries (sym c.in_err-number.ensures.found) there.0 c.args.node.now
      (subst (λ b. slice_get b.nodes there.0 ≡ Some c.args.node.now) (sym c.self.view_is) there.1)));
  stands = search rules;
}
