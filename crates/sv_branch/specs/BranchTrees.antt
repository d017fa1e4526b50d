-- Believed: the state of a log that a branch by numbers stands for, where these are the terms. Hold it against the two definitions that it ties.
use Rattle.std.specs.Prelude.{ℕ, ◌<◌, Bool, List, ◌≡◌, length, map, take}
use Rattle.std.specs.List.{All}
use Rattle.sv_term.specs.Terms.{Term}
use Rattle.sv_term.specs.FactRules.{Says}
use Rattle.sv_log.specs.Logs.{Item, Known, Bound, Split, State, nth_term}
use Rattle.sv_force.specs.InForce.{Held, FactOn, RowOf}
use Rattle.sv_branch.specs.OpenBranches.{OpenSplit, Standing}

abbrev pub item_of : List Term → Held → Item
item_of ts (FactOn sign n) = Known (Says sign (nth_term ts n))
item_of ts (RowOf r) = Bound r

abbrev pub split : Term → List Item → Bool → Split
split t before second = record { term = t; before = before; second = second }

abbrev pub split_of : List Term → List Held → OpenSplit → Split
split_of ts items p = split (nth_term ts p.term) (map (item_of ts) (take p.before items)) p.second

abbrev pub state : List Term → List Item → List Split → Bool → State
state ts items splits closed = record { terms = ts; items = items; splits = splits; closed = closed }

abbrev pub state_of : List Term → Standing → State
state_of ts b = state ts (map (item_of ts) b.force.items) (map (split_of ts b.force.items) b.splits) b.closed

-- ---- numbers of terms

abbrev pub IsBelow : ℕ → Held → Type 0
IsBelow n (FactOn sign term) = term < n
IsBelow n (RowOf r) = Unit {0}

-- each fact and each split is on one of the first n terms
pub record AreBelow (n : ℕ) (b : Standing) : Type 0 where
  pub facts : All (IsBelow n) b.force.items
  pub splits : All (λ (p : OpenSplit). p.term < n) b.splits

-- no two numbers stand for one term
abbrev pub AreApart : List Term → Type 0
AreApart ts = (i j : ℕ) → i < length ts → j < length ts → nth_term ts i ≡ nth_term ts j → i ≡ j
