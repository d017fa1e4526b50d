use Rattle.std.proofs.Common.{rules, subst, sym, ap, ◌∙◌, slice_get, Some, ◌≡◌, true≢false, map}
use Rattle.sv_term.specs.Banks.{StandsIn, row_of, IsKind, sort_tree}
use Rattle.sv_term.proofs.BankLists.{within_get}
use Rattle.sv_term.specs.contracts.node.SortNodePartialEq.TheImpl.{eq-value}
use Rattle.sv_term.proofs.Keyed.{found_at, none_at, get_map, map_get}
use Rattle.sv_term.proofs.NodeEquality.{sort_node_is, sort_node_found}
use Rattle.sv_term.proofs.bank.Bank.find_sort.Goals as goal

pub returns : goal.returns
returns c = record {
  row = let f = found_at ((eq-value).it c.args.node.now) c.args.node.now c.self.inside.sorts.keys c.in_ok-number.number (sym c.in_ok-number.ensures.index) in
      subst (λ b. slice_get b.sorts c.in_ok-number.number ≡ Some (row_of c.args.node.now)) c.self.view_is
      (get_map row_of c.self.inside.sorts.keys c.in_ok-number.number f.0 f.1 ∙ ap Some (sym (sort_node_is c.args.node.now f.0 f.2)));
  kind = let f = found_at ((eq-value).it c.args.node.now) c.args.node.now c.self.inside.sorts.keys c.in_ok-number.number (sym c.in_ok-number.ensures.index) in
      let at : slice_get (map row_of c.self.inside.sorts.keys) c.in_ok-number.number ≡ Some (row_of c.args.node.now) =
      get_map row_of c.self.inside.sorts.keys c.in_ok-number.number f.0 f.1 ∙ ap Some (sym (sort_node_is c.args.node.now f.0 f.2)) in
      subst (λ b. IsKind b record { 0 = c.in_ok-number.number } (sort_tree b (row_of c.args.node.now))) c.self.view_is record {
        within = within_get (map row_of c.self.inside.sorts.keys) c.in_ok-number.number (row_of c.args.node.now) at;
        is = (c.self.invariant.0.sorts record { 0 = c.in_ok-number.number } (row_of c.args.node.now) at).is;
      };
}

pub returns-in_err-number : goal.returns-in_err-number
returns-in_err-number c = record {
  row = rw c.from_residual.ensures (λ (there : StandsIn c.args.self.now.sorts (row_of c.args.node.now)).
      let k = map_get row_of c.self.inside.sorts.keys there.0 (row_of c.args.node.now) (subst (λ b. slice_get b.sorts there.0 ≡ Some (row_of c.args.node.now)) (sym c.self.view_is) there.1) in
      true≢false (sym (sort_node_found c.args.node.now k.0 (sym k.2)) ∙ none_at ((eq-value).it c.args.node.now) c.self.inside.sorts.keys (sym c.in_err-number.ensures.found) there.0 k.0 k.1));
  kind = search rules;
}
