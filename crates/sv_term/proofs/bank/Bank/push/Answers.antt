use Rattle.std.proofs.Common.{rules, subst, sym, ap, ◌∙◌, ◌≡◌, ◌++◌, ◌∷◌, [], map, slice_get, length, refl}
use Rattle.indexmap.specs.IndexMap.{keys}
use Rattle.std.specs.Map.{keys_of}
use Rattle.sv_term.specs.declared.node.Node.{Node}
use Rattle.sv_term.specs.declared.node.SortId.{SortId}
use Rattle.sv_term.specs.Terms.{sort_of}
use Rattle.sv_term.specs.Banks.{row_of, tree, StandsIn, Fits, Keeps, Stands, IsKind, IsSound, KindsAre}
use Rattle.sv_term.specs.contracts.node.NodePartialEq.TheImpl.{eq-value}
use Rattle.sv_term.proofs.BankLists.{at_end}
use Rattle.sv_term.proofs.BankGrowth.{keeps_added, stands_added, sound_added, kinds_added}
use Rattle.sv_term.proofs.Keyed.{entry_last, map_push, length_map}
use Rattle.sv_term.proofs.NodeEquality.{absent_keys}
use Rattle.sv_term.proofs.bank.Bank.push.Goals as goal

absent : (c : goal.In-Ok) → StandsIn (keys c.self.inside.nodes) c.args.node → ⊥
absent c = subst (λ b. StandsIn b.nodes c.args.node → ⊥) (sym c.self.view_is) c.requires.absent

fits : (c : goal.In-Ok) → Fits (record { sorts = map row_of c.self.inside.sorts.keys; nodes = keys c.self.inside.nodes }) c.args.node
fits c = subst (λ b. Fits b c.args.node) (sym c.self.view_is) c.requires.fits

entries : (c : goal.In-Ok) → c.insert.new.self.entries ≡ c.self.inside.nodes.entries ++ (c.args.node, c.args.sort) ∷ []
entries c = c.in-Ok.ensures.entries ∙ entry_last (eq-value).it c.self.inside.nodes.entries c.args.node c.args.sort (absent_keys (keys c.self.inside.nodes) c.args.node (absent c))

nodes : (c : goal.In-Ok) → keys c.insert.new.self ≡ keys c.self.inside.nodes ++ c.args.node ∷ []
nodes c = ap (map (λ (e : Node × SortId). e.0)) (entries c) ∙ map_push (λ (e : Node × SortId). e.0) c.self.inside.nodes.entries (c.args.node, c.args.sort)

last : (c : goal.In-Ok) → c.len-number.result ≡ length (keys c.self.inside.nodes)
last c = c.len-number.ensures.len ∙ sym (length_map (λ e. e.0) c.self.inside.nodes.entries)

pub invariant_of-self : goal.invariant_of-self
invariant_of-self c =
    subst (λ es. IsSound (record { sorts = map row_of c.self.inside.sorts.keys; nodes = keys_of es }) × KindsAre (record { sorts = map row_of c.self.inside.sorts.keys; nodes = keys_of es }) es)
    (sym c.in_default.ensures.err) c.self.invariant

pub invariant_of-self-2 : goal.invariant_of-self-2
invariant_of-self-2 c = (
  sound_added _ _ c.args.node refl (nodes c) (fits c) c.self.invariant.0 (λ j e. absent c (j, e)),
  kinds_added _ _ c.args.node refl (nodes c) (fits c) c.self.invariant.0 (λ j e. absent c (j, e)) c.self.inside.nodes.entries c.insert.new.self.entries c.args.sort (entries c)
      (sym (length_map (λ e. e.0) c.self.inside.nodes.entries)) c.self.invariant.1
      (subst (λ b. IsKind b c.args.sort (sort_of (tree b c.args.node))) (sym c.self.view_is) c.requires.kind),
)

pub returns : goal.returns
returns c = record {
  kept = subst (λ b. Keeps b (record { sorts = map row_of c.self.inside.sorts.keys; nodes = keys c.insert.new.self })) c.self.view_is
      (keeps_added _ _ c.args.node refl (nodes c));
  node = ap (λ z. slice_get z c.len-number.result) (nodes c) ∙ at_end (keys c.self.inside.nodes) c.args.node c.len-number.result (last c);
  stands = subst (λ b. Stands (record { sorts = map row_of c.self.inside.sorts.keys; nodes = keys c.insert.new.self }) record { 0 = c.len-number.result } (tree b c.args.node)) c.self.view_is
      (stands_added _ _ c.args.node refl (nodes c) record { 0 = c.len-number.result } (last c));
  last = subst (λ b. keys c.insert.new.self ≡ b.nodes ++ c.args.node ∷ []) c.self.view_is (nodes c);
  err = search rules;
}
