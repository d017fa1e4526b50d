use Rattle.std.proofs.Common.{rules, subst, sym, ap, ◌∙◌, ◌≡◌, ◌++◌, ◌∷◌, [], map, slice_get, length, refl}
use Rattle.indexmap.specs.IndexMap.{keys}
use Rattle.sv_term.specs.Banks.{row_of, sort_tree, StandsIn, SortFits, Keeps, IsKind, IsSound, KindsAre}
use Rattle.sv_term.specs.contracts.node.SortNodePartialEq.TheImpl.{eq-value}
use Rattle.sv_term.proofs.BankLists.{at_end}
use Rattle.sv_term.proofs.BankGrowth.{keeps_sorted, kind_sorted, sound_sorted, kinds_sorted}
use Rattle.sv_term.proofs.Keyed.{key_last, map_push, length_map}
use Rattle.sv_term.proofs.NodeEquality.{absent_rows}
use Rattle.sv_term.proofs.bank.Bank.push_sort.Goals as goal

absent : (c : goal.In_ok-insert_full) → StandsIn (map row_of c.self.inside.sorts.keys) (row_of c.args.node) → ⊥
absent c = subst (λ b. StandsIn b.sorts (row_of c.args.node) → ⊥) (sym c.self.view_is) c.requires.absent

fits : (c : goal.In_ok-insert_full) → SortFits (record { sorts = map row_of c.self.inside.sorts.keys; nodes = keys c.self.inside.nodes }) (row_of c.args.node)
fits c = subst (λ b. SortFits b (row_of c.args.node)) (sym c.self.view_is) c.requires.fits

rows : (c : goal.In_ok-insert_full) → map row_of c.insert_full.new.self.keys ≡ map row_of c.self.inside.sorts.keys ++ row_of c.args.node ∷ []
rows c =
    ap (map row_of) (c.in_ok-insert_full.ensures.keys ∙ key_last (eq-value).it c.self.inside.sorts.keys c.args.node (absent_rows c.self.inside.sorts.keys c.args.node (absent c)))
    ∙ map_push row_of c.self.inside.sorts.keys c.args.node

last : (c : goal.In_ok-insert_full) → c.len-number.result ≡ length (map row_of c.self.inside.sorts.keys)
last c = c.len-number.ensures.len ∙ sym (length_map row_of c.self.inside.sorts.keys)

pub invariant_of-self : goal.invariant_of-self
invariant_of-self c =
    subst (λ ks. IsSound (record { sorts = map row_of ks; nodes = keys c.self.inside.nodes }) × KindsAre (record { sorts = map row_of ks; nodes = keys c.self.inside.nodes }) c.self.inside.nodes.entries)
    (sym c.in_err-insert_full.ensures.err) c.self.invariant

pub invariant_of-self-2 : goal.invariant_of-self-2
invariant_of-self-2 c = (
  sound_sorted _ _ (row_of c.args.node) refl (rows c) (fits c) c.self.invariant.0 (λ j e. absent c (j, e)),
  kinds_sorted _ _ (row_of c.args.node) refl (rows c) (fits c) c.self.invariant.0 c.self.inside.nodes.entries (sym (length_map (λ e. e.0) c.self.inside.nodes.entries)) c.self.invariant.1,
)

pub returns : goal.returns
returns c = record {
  kept = subst (λ b. Keeps b (record { sorts = map row_of c.insert_full.new.self.keys; nodes = keys c.self.inside.nodes })) c.self.view_is
      (keeps_sorted _ _ (row_of c.args.node) refl (rows c) (fits c) c.self.invariant.0);
  nodes = search rules;
  row = ap (λ z. slice_get z c.len-number.result) (rows c) ∙ at_end (map row_of c.self.inside.sorts.keys) (row_of c.args.node) c.len-number.result (last c);
  kind = subst (λ b. IsKind (record { sorts = map row_of c.insert_full.new.self.keys; nodes = keys c.self.inside.nodes }) record { 0 = c.len-number.result } (sort_tree b (row_of c.args.node))) c.self.view_is
      (kind_sorted _ _ (row_of c.args.node) refl (rows c) (fits c) c.self.invariant.0 record { 0 = c.len-number.result } (last c));
  last = subst (λ b. map row_of c.insert_full.new.self.keys ≡ b.sorts ++ row_of c.args.node ∷ []) c.self.view_is (rows c);
  err = search rules;
}
