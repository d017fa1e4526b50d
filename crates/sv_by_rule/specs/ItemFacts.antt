-- Believed: what it is that a rule gives a fact from items in force, by numbers. Hold it against `IsGiven` of the definition of logs.
use Rattle.std.specs.Prelude.{ℕ, ◌<◌, ◌≤◌, Bool, true, List, [], ◌∷◌, ◌≡◌, ◌↔◌, length, map, drop, slice_get, Some}
use Rattle.std.specs.List.{All}
use Rattle.sv_term.specs.Terms.{Term, Eq}
use Rattle.sv_term.specs.FactRules.{Fact, Says, IsByRule, differing}
use Rattle.sv_log.specs.Logs.{Known, AreFacts, nth_term, nth_terms}
use Rattle.sv_force.specs.InForce.{Held, FactOn}
use Rattle.sv_branch.specs.BranchTrees.{item_of, IsBelow}

-- the items are there, each fact in force is on a term, and so is the fact that is asked
pub record CanAskAll (ts : List Term) (items : List Held) (from : List ℕ) (n : ℕ) : Type 0 where
  pub there : All (λ k. k < length items) from
  pub below : All (IsBelow (length ts)) items
  pub within : n < length ts

-- the rule gives the fact from the items
abbrev pub IsGivenBy : List Term → List Held → ℕ → List ℕ → Bool → ℕ → Type 0
IsGivenBy ts items rule from sign n = (fs : List Fact) × AreFacts (map (item_of ts) items) from fs × IsByRule rule fs (Says sign (nth_term ts n))

-- ---- parts

abbrev pub AreThere : List Held → List ℕ → Type 0
AreThere items from = All (λ k. k < length items) from

-- the items of these numbers are these facts
abbrev pub AreHeld : List Held → List ℕ → List (Bool × ℕ) → Type 0
AreHeld items [] [] = Unit {0}
AreHeld items (k ∷ ks) (p ∷ ps) = (slice_get items k ≡ Some (FactOn p.0 p.1)) × AreHeld items ks ps
AreHeld items _ _ = ⊥

-- they are no facts, or more than three
pub record AreNotHeld (items : List Held) (from : List ℕ) : Type 0 where
  pub none : (ps : List (Bool × ℕ)) → length ps ≤ 3 → AreHeld items from ps → ⊥

pub record CanAsk (ts : List Term) (items : List Held) (place : ℕ) : Type 0 where
  pub there : place < length items
  pub below : All (IsBelow (length ts)) items

abbrev pub AreThereBoth : List Term → ℕ → ℕ → Type 0
AreThereBoth ts a b = (a < length ts) × (b < length ts)

abbrev pub IsEquationAt : List Term → List Held → ℕ → ℕ → ℕ → Type 0
IsEquationAt ts items place a b = slice_get (map (item_of ts) items) place ≡ Some (Known (Says true (Eq (nth_term ts a) (nth_term ts b))))

pub record CanCompare (ts : List Term) (items : List Held) (from xs ys : List ℕ) : Type 0 where
  pub there : AreThere items from
  pub below : All (IsBelow (length ts)) items
  pub first : All (λ k. k < length ts) xs
  pub second : All (λ k. k < length ts) ys

abbrev pub AreEqual : List Term → List Held → List ℕ → List ℕ → List ℕ → Type 0
AreEqual ts items from first second = (length first ≡ length second) × AreFacts (map (item_of ts) items) from (differing (nth_terms ts first) (nth_terms ts second))

-- congruence gives the fact from the items
abbrev pub IsAlike : List Term → List Held → List ℕ → Bool → ℕ → Type 0
IsAlike ts items from sign n = IsGivenBy ts items 23 from sign n

-- the first arguments are compared, and the first items are taken for them
pub record IsComparing (ts : List Term) (items : List Held) (from xs ys : List ℕ) (taken i : ℕ) : Type 0 where
  pub same : AreEqual ts items from xs ys ↔ AreEqual ts items (drop taken from) (drop i xs) (drop i ys)
  pub sizes : length xs ≡ length ys
  pub taken_there : taken ≤ length from
