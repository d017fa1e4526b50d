-- Serves the proof: the longest front of a text that has a form.
use Rattle.std.specs.Prelude.{◌≡◌, ℕ, ◌≤◌, ◌<◌, Bool, true, ◌&&◌, List, [], ◌∷◌, ◌++◌, length, take, nat_le}
use Rattle.std.specs.List.{list_all}

-- the front of this length has the form, where it isn't empty, and no longer front has it
pub record IsLongestSuch (Form : List ℕ → Type 0) (text : List ℕ) (n : ℕ) : Type 0 where
  pub within : n ≤ length text
  pub form : 0 < n → Form (take n text)
  pub longest : (front rest : List ℕ) → text ≡ front ++ rest → Form front → length front ≤ n

-- no list is longer than one before it
abbrev pub longest_first : List (List ℕ) → Bool
longest_first [] = true
longest_first (first ∷ later) = list_all (λ bytes. nat_le (length bytes) (length first)) later && longest_first later
