-- Believed: that a branch by numbers does what a log does. Hold it against the definition of a log's state, case by case.
use Rattle.std.specs.Prelude.{ℕ, ◌<◌, Bool, true, List, [], ◌∷◌, ◌++◌, ◌≡◌, ◌↔◌, length, slice_get}
use Rattle.std.specs.Option.{option_map}
use Rattle.std.specs.List.{Contains}
use Rattle.sv_term.specs.Terms.{Term}
use Rattle.sv_term.specs.FactRules.{Says}
use Rattle.sv_log.specs.LogEntries.{Row, SplitOn, Cut, CloseAt}
use Rattle.sv_log.specs.Logs as s
use Rattle.sv_force.specs.InForce.{Held, FactOn, RowOf}
use Rattle.sv_branch.specs.OpenBranches.{Standing, IsInFirstHalf, AreNested, with_held, opened, turned, shut}
use Rattle.sv_branch.specs.BranchTrees.{item_of, state, state_of, AreBelow, AreApart}

abbrev pub IsNested : Standing → Type 0
IsNested b = AreNested (length b.force.items) b.splits

-- what each step does to the state
pub record StepsAreAfter : Type 0 where
  pub held : (ts : List Term) (b : Standing) (h : Held) → IsNested b → state_of ts (with_held h b) ≡ s.with_item (item_of ts h) (state_of ts b)
  pub split : (ts : List Term) (b : Standing) (n : ℕ) → IsNested b → state_of ts (opened n b) ≡ s.after (state_of ts b) (SplitOn n)
  pub cut : (ts : List Term) (b : Standing) → IsNested b → state_of ts (turned b b.splits) ≡ s.after (state_of ts b) Cut
  pub close : (ts : List Term) (b : Standing) (p : ℕ) → state_of ts (shut b) ≡ s.after (state_of ts b) (CloseAt p)
  pub term : (ts : List Term) (b : Standing) (t : Term) → AreBelow (length ts) b
      → state_of (ts ++ t ∷ []) b ≡ state (ts ++ t ∷ []) (state_of ts b).items (state_of ts b).splits b.closed

-- what is asked of the numbers is true of the state
pub record QuestionsAgree : Type 0 where
  pub half : (ts : List Term) (b : Standing) → IsInFirstHalf b.splits ↔ s.IsInFirstHalf (state_of ts b).splits
  pub done : (ts : List Term) (b : Standing) → (b.closed ≡ true) × (b.splits ≡ []) ↔ s.IsClosed (state_of ts b)
  pub fact : (ts : List Term) (b : Standing) (sign : Bool) (n : ℕ) → AreApart ts → AreBelow (length ts) b → n < length ts
      → Contains b.force.items (FactOn sign n) ↔ Contains (state_of ts b).items (s.Known (Says sign (s.nth_term ts n)))
  pub row : (ts : List Term) (b : Standing) (r : Row) → Contains b.force.items (RowOf r) ↔ Contains (state_of ts b).items (s.Bound r)
  pub item : (ts : List Term) (b : Standing) (p : ℕ) → slice_get (state_of ts b).items p ≡ option_map (item_of ts) (slice_get b.force.items p)
