-- Believed: what a contract sees of a table, and the last place that has a code. Hold it against a list that is searched from its end.
use Rattle.std.specs.Prelude.{ℕ, ◌<◌, List, ◌≡◌, ◌≢◌, slice_index}

-- the codes in order, and for how many there is room
pub record Places : Type 0 where
  pub codes : List ℕ
  pub room : ℕ

abbrev pub places : List ℕ → ℕ → Places
places codes room = record { codes = codes; room = room }

-- no place below n has the code
abbrev pub HasNone : List ℕ → ℕ → ℕ → Type 0
HasNone codes code n = (k : ℕ) → k < n → slice_index codes k ≢ code

-- k is the last place below n that has the code
pub record IsLast (codes : List ℕ) (code n k : ℕ) : Type 0 where
  pub below : k < n
  pub is : slice_index codes k ≡ code
  pub last : (j : ℕ) → k < j → j < n → slice_index codes j ≢ code
