-- What the proof asks of a command: it is formed, and what it sets fits.
use Rattle.std.proofs.Common.{true, ◌≡◌, List}
use Rattle.sv_term.specs.Sorts.{Sort}
use Rattle.sv_term.specs.Terms.{fits}
use Rattle.sv_gcl.specs.Commands.{Command, Commands, Assume, Check, Set, Forget, Seq, Choice, Nil, Cons}
use Rattle.sv_gcl.specs.FormedCommands.{IsOver, IsSetTo, IsFormed, AreFormed}
use Rattle.sv_vc.specs.ConditionsExact.{HasFitting, HaveFitting}

abbrev mutual
  pub IsGood : List Sort → Command → Type 0
  IsGood vars (Assume f) = IsOver vars f
  IsGood vars (Check l f) = IsOver vars f
  IsGood vars (Set x t) = IsSetTo vars x t × (fits t ≡ true)
  IsGood vars (Forget x) = Unit {0}
  IsGood vars (Seq cs) = AreGood vars cs
  IsGood vars (Choice cs) = AreGood vars cs

  pub AreGood : List Sort → Commands → Type 0
  AreGood vars Nil = Unit {0}
  AreGood vars (Cons c cs) = IsGood vars c × AreGood vars cs

mutual
  pub good : (vars : List Sort) (c : Command) → IsFormed vars c → HasFitting c → IsGood vars c
  good vars (Assume f) w h = w.over
  good vars (Check l f) w h = w.over
  good vars (Set x t) w h = (w, h)
  good vars (Forget x) w h = tt
  good vars (Seq cs) w h = all_good vars cs w h
  good vars (Choice cs) w h = all_good vars cs w h

  all_good : (vars : List Sort) (cs : Commands) → AreFormed vars cs → HaveFitting cs → AreGood vars cs
  all_good vars Nil w h = tt
  all_good vars (Cons c cs) w h = (good vars c w.0 h.0, all_good vars cs w.1 h.1)
