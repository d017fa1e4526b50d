-- Believed: lists of numbers in order, and for how many there is room. Hold it against the comment at `ListRoom`.
use Rattle.std.specs.Prelude.{ℕ, ◌+◌, List, [], ◌∷◌, length}

-- how many numbers the lists have together
abbrev pub numbers_in : List (List ℕ) → ℕ
numbers_in [] = 0
numbers_in (ns ∷ nss) = length ns + numbers_in nss

-- the lists in order, for how many there is room, and for how many numbers of all of them
pub record NumberLists : Type 0 where
  pub lists : List (List ℕ)
  pub room : ℕ
  pub numbers_room : ℕ

abbrev pub number_lists : List (List ℕ) → ℕ → ℕ → NumberLists
number_lists lists room numbers_room = record { lists = lists; room = room; numbers_room = numbers_room }
