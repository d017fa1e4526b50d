-- Believed: when the conditions of a command are exact, what they are over, and how many commands there are in it. Hold it against the README's sentences on `conditions`.
use Rattle.std.specs.Prelude.{ℕ, ◌+◌, List, [], ◌∷◌, ◌++◌, ◌≡◌, ◌↔◌}
use Rattle.sv_term.specs.Banks.{Nodes, IsSort, IsBool, StandsIn, sort, term, wide}
use Rattle.sv_term.specs.Models.{Valid}
use Rattle.sv_gcl.specs.declared.lowered.GVar.{GVar}
use Rattle.sv_gcl.specs.declared.lowered.Lowered.{Lowered}
use Rattle.sv_gcl.specs.Commands.{NoRunFails}
use Rattle.sv_gcl.specs.CommandShapes.{Shape, Shapes, Assume, Check, Set, Forget, Seq, Choice, Nil, Cons}
use Rattle.sv_gcl.specs.FormedCommands.{sorts_of_vars, command_of}
use Rattle.sv_vc.specs.declared.answer.Condition.{Condition}

-- a truth value of the bank that is valid exactly where no run fails at the label
pub record IsExact (l : Lowered) (b : Nodes) (c : Condition) : Type 0 where
  pub claim : IsBool b c.formula
  pub exact : Valid (term b c.formula) ↔ NoRunFails (sorts_of_vars l) (command_of l) c.label

abbrev pub AreExact : Lowered → Nodes → List Condition → Type 0
AreExact l b [] = Unit {0}
AreExact l b (c ∷ cs) = IsExact l b c × AreExact l b cs

-- the commands in a command, itself among them
abbrev mutual
  pub count : Shape → ℕ
  count (Assume f) = 1
  count (Check l f) = 1
  count (Set x t) = 1
  count (Forget x) = 1
  count (Seq xs) = counts xs + 1
  count (Choice xs) = counts xs + 1

  pub counts : Shapes → ℕ
  counts Nil = 0
  counts (Cons x xs) = count x + counts xs

-- a version of a variable of the command: it has its name, and its sort, where two sorts of numbers count as one
pub record IsVersion (l : Lowered) (b : Nodes) (v : GVar) : Type 0 where
  pub one : GVar
  pub given : StandsIn l.vars one
  pub within : IsSort b v.sort
  pub name : v.name ≡ one.name
  pub kind : wide (sort b v.sort) ≡ wide (sort l.bank one.sort)

abbrev pub AllVersions : Lowered → Nodes → List GVar → Type 0
AllVersions l b [] = Unit {0}
AllVersions l b (v ∷ vs) = IsVersion l b v × AllVersions l b vs

-- first the variables of the command, then versions of them
pub record AreVersions (l : Lowered) (b : Nodes) (vars : List GVar) : Type 0 where
  pub more : List GVar
  pub is : vars ≡ l.vars ++ more
  pub versions : AllVersions l b more
