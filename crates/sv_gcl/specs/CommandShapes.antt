-- Believed: commands of the code as plain data, and the commands over terms that they stand for in a bank. Hold it against the README's table of commands.
use Rattle.std.specs.Prelude.{ℕ, List, [], ◌∷◌}
use Rattle.sv_core.specs.declared.label.Label.{Label}
use Rattle.sv_term.specs.Banks.{Nodes, term, IsTerm}
use Rattle.sv_term.specs.declared.node.TermId.{TermId}
use Rattle.sv_gcl.specs.declared.command.Cmd.{Cmd, fold-Cmd}
use Rattle.sv_gcl.specs.declared.command.Cmd.TheOpen.{Cmd-F}
use Rattle.sv_gcl.specs.Commands.{Command, Commands}
use Rattle.sv_gcl.specs.Commands as c

mutual
  pub data Shape : Type 0 where
    Assume : (f : TermId) → Shape
    Check : (l : Label) (f : TermId) → Shape
    Set : (x : ℕ) (t : TermId) → Shape
    Forget : (x : ℕ) → Shape
    Seq : (cs : Shapes) → Shape
    Choice : (cs : Shapes) → Shape

  pub data Shapes : Type 0 where
    Nil : Shapes
    Cons : (c : Shape) (cs : Shapes) → Shapes

abbrev pub shaped : List Shape → Shapes
shaped [] = Nil
shaped (x ∷ xs) = Cons x (shaped xs)

abbrev pub layer : Cmd-F Shape → Shape
layer (Cmd-F.Assume f) = Assume f
layer (Cmd-F.Check l f) = Check l f
layer (Cmd-F.Set x t) = Set x t
layer (Cmd-F.Forget x) = Forget x
layer (Cmd-F.Seq cs) = Seq (shaped cs)
layer (Cmd-F.Choice cs) = Choice (shaped cs)

abbrev pub shape : Cmd → Shape
shape = fold-Cmd Shape layer

-- the command that stands there
abbrev mutual
  pub command : Nodes → Shape → Command
  command b (Assume f) = c.Assume (term b f)
  command b (Check l f) = c.Check l (term b f)
  command b (Set x t) = c.Set x (term b t)
  command b (Forget x) = c.Forget x
  command b (Seq xs) = c.Seq (commands b xs)
  command b (Choice xs) = c.Choice (commands b xs)

  pub commands : Nodes → Shapes → Commands
  commands b Nil = c.Nil
  commands b (Cons x xs) = c.Cons (command b x) (commands b xs)

-- its terms are in the bank
abbrev mutual
  pub IsIn : Nodes → Shape → Type 0
  IsIn b (Assume f) = IsTerm b f
  IsIn b (Check l f) = IsTerm b f
  IsIn b (Set x t) = IsTerm b t
  IsIn b (Forget x) = Unit {0}
  IsIn b (Seq xs) = AreIn b xs
  IsIn b (Choice xs) = AreIn b xs

  pub AreIn : Nodes → Shapes → Type 0
  AreIn b Nil = Unit {0}
  AreIn b (Cons x xs) = IsIn b x × AreIn b xs
