-- Serves the proof: the variables as a walk begins.
use Rattle.std.specs.Prelude.{ℕ, ◌+◌, ◌≤◌, List, ◌≡◌, length, map, IfOk, Result, Option}
use Rattle.sv_text.specs.declared.no_memory.NoMemory.{NoMemory}
use Rattle.sv_term.specs.Banks.{Nodes, IsKind, AreSorts, AreTerms, Keeps, sort, sort_list, term_list, wide}
use Rattle.sv_term.specs.declared.node.SortId.{SortId}
use Rattle.sv_term.specs.declared.node.TermId.{TermId}
use Rattle.sv_gcl.specs.declared.lowered.GVar.{GVar}
use Rattle.sv_vc.specs.ConditionWalk.{own}
use Rattle.sv_vc.specs.CodeStates.{sorts_of}

pub record Widens (old : Nodes) (s : SortId) (r : Result SortId NoMemory) (new : Nodes) : Type 0 where
  pub kept : Keeps old new
  pub nodes : new.nodes ≡ old.nodes
  pub kind : IfOk r (λ k. IsKind new k (wide (sort old s)))

abbrev pub names_of : List GVar → List (Option ℕ)
names_of vs = map (λ v. v.name) vs

pub record WidensAll (old : Nodes) (vs : List GVar) (r : Result (List GVar) NoMemory) (new : Nodes) : Type 0 where
  pub kept : Keeps old new
  pub nodes : new.nodes ≡ old.nodes
  pub within : IfOk r (λ ws. AreSorts new (sorts_of ws))
  pub wides : IfOk r (λ ws. sort_list new (sorts_of ws) ≡ map wide (sort_list old (sorts_of vs)))
  pub names : IfOk r (λ ws. names_of ws ≡ names_of vs)

pub record Names (old : Nodes) (vs : List GVar) (r : Result (List TermId) NoMemory) (new : Nodes) : Type 0 where
  pub kept : Keeps old new
  pub within : IfOk r (AreTerms new)
  pub terms : IfOk r (λ ks. term_list new ks ≡ own (sort_list old (sorts_of vs)) 0)
  pub size : IfOk r (λ ks. length new.nodes ≤ length old.nodes + length vs)
