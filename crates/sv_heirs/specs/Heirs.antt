-- Believed: which contract of a line inherits a declaration last, and which declarations break the rule on that. Hold it against Solidity's documentation, "Multiple Inheritance and Linearization" and "Function Overriding".
use Rattle.std.specs.Prelude.{ℕ, ◌≡◌, ◌≢◌, ◌≤◌, Bool, cond, Option, Some, None, List, [], ◌∷◌, max, slice_index_or}
use Rattle.std.specs.Option.{is_some, option_or}
use Rattle.std.specs.List.{Contains}

-- for each contract the place of its declaration, where it has one
abbrev pub place_of : List (Option ℕ) → ℕ → Option ℕ
place_of places c = slice_index_or places c None

abbrev pub declares : List (Option ℕ) → ℕ → Bool
declares places c = is_some (place_of places c)

-- the last contract of a line that has a declaration
abbrev pub heir : List (Option ℕ) → List ℕ → Option ℕ
heir places [] = None
heir places (c ∷ cs) = option_or (heir places cs) (cond (declares places c) (Some c) None)

-- it has a line, and the other is in it
abbrev pub Derives : List (Option (List ℕ)) → ℕ → ℕ → Type 0
Derives lines c d = (line : List ℕ) × (slice_index_or lines c None ≡ Some line) × Contains line d

-- the heir of a line doesn't derive from another contract of the line that has a declaration; the later of the two declarations breaks the rule
pub record Breaks (places : List (Option ℕ)) (lines : List (Option (List ℕ))) (line : List ℕ) (p : ℕ) : Type 0 where
  pub c : ℕ
  pub d : ℕ
  pub is_heir : heir places line ≡ Some c
  pub other : Contains line d
  pub differ : d ≢ c
  pub apart : Derives lines c d → ⊥
  pub c_place : ℕ
  pub d_place : ℕ
  pub c_has : place_of places c ≡ Some c_place
  pub d_has : place_of places d ≡ Some d_place
  pub later : p ≡ max c_place d_place

abbrev pub IsBreach : List (Option ℕ) → List (Option (List ℕ)) → ℕ → Type 0
IsBreach places lines p = (line : List ℕ) × Contains lines (Some line) × Breaks places lines line p

-- the least number of which this is true, or none where it is true of none
abbrev pub IsLeast : (ℕ → Type 0) → Option ℕ → Type 0
IsLeast P None = (p : ℕ) → P p → ⊥
IsLeast P (Some p) = P p × ((q : ℕ) → P q → p ≤ q)
