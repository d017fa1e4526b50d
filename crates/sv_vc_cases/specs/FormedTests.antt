-- Serves the proof: what the test of a command looks at.
use Rattle.std.specs.Prelude.{ℕ, true, ◌<◌, ◌||◌, List, ◌≡◌, length, map, slice_index_or}
use Rattle.sv_term.specs.Sorts.{BoolSort, is_flat}
use Rattle.sv_term.specs.Terms.{Term, sort_of, is_plain}
use Rattle.sv_term.specs.Banks.{Nodes, IsTerm, term, sort_list, wide}
use Rattle.sv_term.specs.declared.node.SortId.{SortId}
use Rattle.sv_term.specs.declared.node.TermId.{TermId}
use Rattle.sv_term.specs.declared.node.Node.{Node}
use Rattle.sv_term.specs.declared.node.Node.TheVariants as n
use Rattle.sv_gcl.specs.declared.lowered.GVar.{GVar}
use Rattle.sv_gcl.specs.Commands.{var_sort}
use Rattle.sv_gcl.specs.CommandShapes.{Shape, Shapes, Assume, Check, Set, Forget, Seq, Choice, Nil, Cons}
use Rattle.sv_gcl.specs.FormedCommands.{IsOver}

abbrev pub sorts_of : List GVar → List SortId
sorts_of vs = map (λ v. v.sort) vs

-- a variable of the list, with its sort there
pub record NamesOne (vs : List GVar) (x : ℕ) (k : SortId) : Type 0 where
  pub variable : x < length vs
  pub one : GVar
  pub at : one ≡ slice_index_or vs x one
  pub sort_is : one.sort ≡ k

abbrev pub IsOneOf : List GVar → Node → Type 0
IsOneOf vs (n.Var x k) = NamesOne vs x k
IsOneOf vs (n.Const k v) = ⊥
IsOneOf vs _ = Unit {0}

pub record IsFine (b : Nodes) (vs : List GVar) (t : Term) : Type 0 where
  pub over : IsOver (sort_list b (sorts_of vs)) t
  pub plain : (is_flat (sort_of t) || is_plain t) ≡ true

-- the terms with numbers below m
abbrev pub AreFine : Nodes → List GVar → ℕ → Type 0
AreFine b vs m = (k : TermId) → k.0 < m → IsFine b vs (term b k)

pub record IsTruth (b : Nodes) (f : TermId) : Type 0 where
  pub within : IsTerm b f
  pub truth : sort_of (term b f) ≡ BoolSort

pub record MaySet (b : Nodes) (vs : List GVar) (x : ℕ) (t : TermId) : Type 0 where
  pub variable : x < length vs
  pub within : IsTerm b t
  pub kin : wide (sort_of (term b t)) ≡ wide (var_sort (sort_list b (sorts_of vs)) x)

abbrev mutual
  pub IsSettled : Nodes → List GVar → Shape → Type 0
  IsSettled b vs (Assume f) = IsTruth b f
  IsSettled b vs (Check l f) = IsTruth b f
  IsSettled b vs (Set x t) = MaySet b vs x t
  IsSettled b vs (Forget x) = x < length vs
  IsSettled b vs (Seq xs) = AreSettled b vs xs
  IsSettled b vs (Choice xs) = AreSettled b vs xs

  pub AreSettled : Nodes → List GVar → Shapes → Type 0
  AreSettled b vs Nil = Unit {0}
  AreSettled b vs (Cons x xs) = IsSettled b vs x × AreSettled b vs xs
