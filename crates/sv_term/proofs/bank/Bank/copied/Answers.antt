use Rattle.std.proofs.Common.{subst, sym, ap₂, ◌∙◌, ◌≡◌, List, map}
use Rattle.std.specs.Map.{keys_of}
use Rattle.sv_term.specs.declared.node.Node.{Node}
use Rattle.sv_term.specs.declared.node.SortId.{SortId}
use Rattle.sv_term.specs.Banks.{Nodes, SortRow, row_of, IsSound, KindsAre}
use Rattle.sv_term.proofs.Cloned.{rows_clone, entries_clone}
use Rattle.sv_term.proofs.bank.Bank.copied.Goals as goal

abbrev seen : List SortRow → List (Node × SortId) → Nodes
seen rs es = record { sorts = rs; nodes = keys_of es }

rows : (c : goal.In_ok-clone-2) → map row_of c.in_ok-clone.field-0.keys ≡ map row_of c.self.inside.sorts.keys
rows c = rows_clone c.self.inside.sorts.keys c.in_ok-clone.field-0.keys c.in_ok-clone.ensures.cases

entries : (c : goal.In_ok-clone-2) → c.in_ok-clone-2.field-0.entries ≡ c.self.inside.nodes.entries
entries c = entries_clone c.self.inside.nodes.entries c.in_ok-clone-2.field-0.entries c.in_ok-clone-2.ensures.cases

pub invariant_of-result : goal.invariant_of-result
invariant_of-result c =
    subst (λ es. IsSound (seen (map row_of c.in_ok-clone.field-0.keys) es) × KindsAre (seen (map row_of c.in_ok-clone.field-0.keys) es) es) (sym (entries c))
    (subst (λ rs. IsSound (seen rs c.self.inside.nodes.entries) × KindsAre (seen rs c.self.inside.nodes.entries) c.self.inside.nodes.entries) (sym (rows c)) c.self.invariant)

pub returns : goal.returns
returns c = ap₂ seen (rows c) (entries c) ∙ c.self.view_is
