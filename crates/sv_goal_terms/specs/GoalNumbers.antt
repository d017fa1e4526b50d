-- Serves the proof: numbers beside the terms of a bank, and where the walk over a condition stands.
use Rattle.std.specs.Prelude.{ℕ, ◌<◌, Bool, true, false, List, [], ◌∷◌, ◌≡◌, take, slice_get, get_or, Option, Some, None, MatchOption}
use Rattle.std.specs.Option.{is_some}
use Rattle.sv_term.specs.declared.node.TermId.{TermId}
use Rattle.sv_term.specs.declared.node.Node.{Node}
use Rattle.sv_goal_terms.specs.declared.walk.Missing.{Missing}

-- beside each term of the list stands its place in it, and beside no other term anything
pub record Numbered (order : List TermId) (numbers : List (Option ℕ)) : Type 0 where
  pub placed : (k : TermId) (n : ℕ) → get_or numbers k.0 None ≡ Some n → slice_get order n ≡ Some k
  pub named : (k : TermId) (n : ℕ) → slice_get order n ≡ Some k → get_or numbers k.0 None ≡ Some n

abbrev pub has_number : List (Option ℕ) → TermId → Bool
has_number numbers k = is_some (get_or numbers k.0 None)

abbrev pub HaveNumbers : List (Option ℕ) → List TermId → Type 0
HaveNumbers numbers [] = Unit {0}
HaveNumbers numbers (k ∷ ks) = (has_number numbers k ≡ true) × HaveNumbers numbers ks

-- the first argument without a number
pub record IsMissing (numbers : List (Option ℕ)) (ks : List TermId) (m : Missing) : Type 0 where
  pub is : slice_get ks m.place ≡ Some m.arg
  pub lacks : has_number numbers m.arg ≡ false
  pub before : HaveNumbers numbers (take m.place ks)

-- the first argument without a number, or none
abbrev pub FindsMissing : List (Option ℕ) → List TermId → Option Missing → Type 0
FindsMissing numbers ks r = MatchOption r (HaveNumbers numbers ks) (IsMissing numbers ks)
