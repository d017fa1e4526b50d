-- Serves the proof: what the steps that a bank takes inside find, need and leave.
use Rattle.std.specs.Prelude.{cond, ◌≡◌, ◌++◌, ◌∷◌, [], slice_get, Some, Option, MatchOption, IfSome, Result, IfOk, OnOk, OnErr}
use Rattle.sv_text.specs.declared.no_memory.NoMemory.{NoMemory}
use Rattle.sv_term.specs.declared.node.TermId.{TermId}
use Rattle.sv_term.specs.declared.node.SortId.{SortId}
use Rattle.sv_term.specs.declared.node.Node.{Node}
use Rattle.sv_term.specs.Sorts.{Sort, NumSort, Any, same_sort}
use Rattle.sv_term.specs.Terms.{sort_of}
use Rattle.sv_term.specs.Banks.{Nodes, SortRow, tree, sort_tree, Fits, Keeps, Stands, IsKind, StandsIn}

-- the number of the sort, or none where it isn't there
pub record FindsSort (b : Nodes) (x : SortRow) (r : Option SortId) : Type 0 where
  pub row : MatchOption r (StandsIn b.sorts x → ⊥) (λ k. slice_get b.sorts k.0 ≡ Some x)
  pub kind : IfSome r (λ k. IsKind b k (sort_tree b x))

-- the number of the node, or none where it isn't there
pub record FindsNode (b : Nodes) (x : Node) (r : Option TermId) : Type 0 where
  pub node : MatchOption r (StandsIn b.nodes x → ⊥) (λ k. slice_get b.nodes k.0 ≡ Some x)
  pub stands : IfSome r (λ k. Stands b k (tree b x))

-- a sort is new in the bank
pub record AddsSort (old : Nodes) (x : SortRow) (r : Result SortId NoMemory) (new : Nodes) : Type 0 where
  pub kept : Keeps old new
  pub nodes : new.nodes ≡ old.nodes
  pub row : IfOk r (λ k. slice_get new.sorts k.0 ≡ Some x)
  pub kind : IfOk r (λ k. IsKind new k (sort_tree old x))
  pub last : OnOk r (new.sorts ≡ old.sorts ++ x ∷ [])
  pub err : OnErr r (new ≡ old)

-- a node that fits, has this sort, and isn't there
pub record IsNewNode (b : Nodes) (x : Node) (k : SortId) : Type 0 where
  pub fits : Fits b x
  pub kind : IsKind b k (sort_of (tree b x))
  pub absent : StandsIn b.nodes x → ⊥

-- it is new in the bank
pub record AddsNode (old : Nodes) (x : Node) (r : Result TermId NoMemory) (new : Nodes) : Type 0 where
  pub kept : Keeps old new
  pub node : IfOk r (λ k. slice_get new.nodes k.0 ≡ Some x)
  pub stands : IfOk r (λ k. Stands new k (tree old x))
  pub last : OnOk r (new.nodes ≡ old.nodes ++ x ∷ [])
  pub err : OnErr r (new ≡ old)

-- the number of a sort, which may be new in the bank
pub record GivesSort (old : Nodes) (s : Sort) (r : Result SortId NoMemory) (new : Nodes) : Type 0 where
  pub kept : Keeps old new
  pub nodes : new.nodes ≡ old.nodes
  pub kind : IfOk r (λ k. IsKind new k s)

-- the sort of a choice between terms of these sorts
abbrev pub joined : Sort → Sort → Sort
joined x y = cond (same_sort x y) x (NumSort Any)
