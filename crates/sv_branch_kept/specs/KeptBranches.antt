-- Believed: that facts and splits on terms that are there, and rows in normal form, stay so at each step. Hold it against the steps of `sv_branch`.
use Rattle.std.specs.Prelude.{ℕ, ◌<◌, ◌≤◌, List, [], ◌≡◌, Bool, slice_get, Some, false}
use Rattle.std.specs.List.{All}
use Rattle.sv_log.specs.LogEntries.{Row}
use Rattle.sv_row.specs.RowParts.{IsNormal}
use Rattle.sv_force.specs.InForce.{Held, FactOn, RowOf, force}
use Rattle.sv_branch.specs.OpenBranches.{OpenSplit, Standing, standing, with_held, opened, turned, shut}
use Rattle.sv_branch.specs.BranchTrees.{AreBelow}

-- a fact is on one of the first n terms, and a row is in normal form
abbrev pub IsSoundItem : ℕ → Held → Type 0
IsSoundItem n (FactOn sign term) = term < n
IsSoundItem n (RowOf r) = IsNormal r.parts

-- where there are n terms
pub record IsSound (n : ℕ) (b : Standing) : Type 0 where
  pub items : All (IsSoundItem n) b.force.items
  pub splits : All (λ (p : OpenSplit). p.term < n) b.splits

pub record StepsKeep : Type 0 where
  pub begun : (n items parts splits : ℕ) → IsSound n (standing (force [] items parts) [] splits false)
  pub held : (n : ℕ) (b : Standing) (h : Held) → IsSound n b → IsSoundItem n h → IsSound n (with_held h b)
  pub split : (n : ℕ) (b : Standing) (term : ℕ) → IsSound n b → term < n → IsSound n (opened term b)
  pub cut : (n : ℕ) (b : Standing) → IsSound n b → IsSound n (turned b b.splits)
  pub close : (n : ℕ) (b : Standing) → IsSound n b → IsSound n (shut b)
  -- where there come to be more terms
  pub terms : (n m : ℕ) (b : Standing) → IsSound n b → n ≤ m → IsSound m b

pub record AsksAreMet : Type 0 where
  pub below : (n : ℕ) (b : Standing) → IsSound n b → AreBelow n b
  pub fact : (n : ℕ) (b : Standing) (place : ℕ) (sign : Bool) (term : ℕ) → IsSound n b → slice_get b.force.items place ≡ Some (FactOn sign term) → term < n
  pub row : (n : ℕ) (b : Standing) (place : ℕ) (r : Row) → IsSound n b → slice_get b.force.items place ≡ Some (RowOf r) → IsNormal r.parts
