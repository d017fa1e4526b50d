-- Believed: the condition of a label is valid exactly where no run fails at the label. Hold it against the README's sentence.
use Rattle.std.specs.Prelude.{List, [], ◌∷◌, ◌≡◌, ◌↔◌, true}
use Rattle.sv_core.specs.declared.label.Label.{Label}
use Rattle.sv_term.specs.Sorts.{Sort, is_sort}
use Rattle.sv_term.specs.Terms.{fits}
use Rattle.sv_term.specs.Models.{Valid}
use Rattle.sv_gcl.specs.Commands.{Command, Commands, Assume, Check, Set, Forget, Seq, Choice, Nil, Cons, NoRunFails}
use Rattle.sv_gcl.specs.FormedCommands.{IsFormed}
use Rattle.sv_vc.specs.ConditionWalk.{condition}

-- its terms fit, as the terms of a bank do
abbrev mutual
  pub HasFitting : Command → Type 0
  HasFitting (Assume f) = fits f ≡ true
  HasFitting (Check l f) = fits f ≡ true
  HasFitting (Set x t) = fits t ≡ true
  HasFitting (Forget x) = Unit {0}
  HasFitting (Seq cs) = HaveFitting cs
  HasFitting (Choice cs) = HaveFitting cs

  pub HaveFitting : Commands → Type 0
  HaveFitting Nil = Unit {0}
  HaveFitting (Cons c cs) = HasFitting c × HaveFitting cs

abbrev pub AllAreSorts : List Sort → Type 0
AllAreSorts [] = Unit {0}
AllAreSorts (σ ∷ vars) = (is_sort σ ≡ true) × AllAreSorts vars

abbrev pub ConditionsAreExact : Type 0
ConditionsAreExact = (vars : List Sort) (c : Command) (l : Label) → AllAreSorts vars → HasFitting c → IsFormed vars c → Valid (condition vars c l) ↔ NoRunFails vars c l
