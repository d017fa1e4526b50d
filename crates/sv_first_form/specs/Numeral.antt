-- Serves the proof: the texts that `decimal` writes.
use Rattle.std.specs.Prelude.{◌≡◌, ℕ, ◌≤◌, List, EachIndex, length, slice_index}
use Rattle.std.specs.Int.{IsInRange}

abbrev pub HasDigitsAlone : List ℕ → Type 0
HasDigitsAlone text = EachIndex text (λ k. IsInRange 48 57 (slice_index text k))

-- a digit or more, and no 0 before another digit
pub record IsNumeral (text : List ℕ) : Type 0 where
  pub digits : HasDigitsAlone text
  pub size : 1 ≤ length text
  pub first : slice_index text 0 ≡ 48 → length text ≡ 1
