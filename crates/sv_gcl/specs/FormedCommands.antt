-- Believed: when a command over its variables is formed. Hold it against the sentences behind the README's table of commands.
use Rattle.std.specs.Prelude.{ℕ, ◌<◌, List, ◌≡◌, ◌⊎◌, length, map, true}
use Rattle.sv_term.specs.Sorts.{Sort, BoolSort, is_flat}
use Rattle.sv_term.specs.Terms.{Shape, VarNode, Term, App, Terms, End, More, sort_of, is_plain}
use Rattle.sv_term.specs.Banks.{wide, kind_of, sort_list, AreSorts}
use Rattle.sv_gcl.specs.declared.lowered.Lowered.{Lowered}
use Rattle.sv_gcl.specs.Commands.{Command, Commands, Assume, Check, Set, Forget, Seq, Choice, Nil, Cons, var_sort}
use Rattle.sv_gcl.specs.CommandShapes.{shape, command, IsIn}

-- a node that is a variable is one of the list, of its sort there
abbrev pub NamesVariable : List Sort → Shape → Type 0
NamesVariable vars (VarNode n s) = (n < length vars) × (s ≡ var_sort vars n)
NamesVariable vars _ = Unit {0}

abbrev mutual
  pub IsOver : List Sort → Term → Type 0
  IsOver vars (App x ts) = NamesVariable vars x × AreOver vars ts

  pub AreOver : List Sort → Terms → Type 0
  AreOver vars End = Unit {0}
  AreOver vars (More t ts) = IsOver vars t × AreOver vars ts

pub record IsClaim (vars : List Sort) (f : Term) : Type 0 where
  pub truth : sort_of f ≡ BoolSort
  pub over : IsOver vars f

-- two sorts of numbers count as one, and an array or a tuple is plain
pub record IsSetTo (vars : List Sort) (x : ℕ) (t : Term) : Type 0 where
  pub within : x < length vars
  pub kind : kind_of t ≡ wide (var_sort vars x)
  pub over : IsOver vars t
  pub plain : (is_flat (sort_of t) ≡ true) ⊎ (is_plain t ≡ true)

abbrev mutual
  pub IsFormed : List Sort → Command → Type 0
  IsFormed vars (Assume f) = IsClaim vars f
  IsFormed vars (Check l f) = IsClaim vars f
  IsFormed vars (Set x t) = IsSetTo vars x t
  IsFormed vars (Forget x) = x < length vars
  IsFormed vars (Seq cs) = AreFormed vars cs
  IsFormed vars (Choice cs) = AreFormed vars cs

  pub AreFormed : List Sort → Commands → Type 0
  AreFormed vars Nil = Unit {0}
  AreFormed vars (Cons c cs) = IsFormed vars c × AreFormed vars cs

-- the sorts of its variables, and its command
abbrev pub sorts_of_vars : Lowered → List Sort
sorts_of_vars l = sort_list l.bank (map (λ v. v.sort) l.vars)

abbrev pub command_of : Lowered → Command
command_of l = command l.bank (shape l.cmd)

pub record IsLowered (l : Lowered) : Type 0 where
  pub vars : AreSorts l.bank (map (λ v. v.sort) l.vars)
  pub within : IsIn l.bank (shape l.cmd)
  pub formed : IsFormed (sorts_of_vars l) (command_of l)
