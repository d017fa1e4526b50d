-- Believed: rooms added up, and a number that would pass the greatest `usize`. Hold it against the README's first paragraphs.
use Rattle.std.specs.Prelude.{ℕ, ◌+◌, ◌-◌, ◌^◌, ◌≤◌, ◌<◌, min, List, [], ◌∷◌}
use Rattle.sv_room.specs.declared.room.Room.{Room}

abbrev pub room : ℕ → ℕ → ℕ → ℕ → ℕ → ℕ → Room
room terms args sorts items coefficients splits =
    record { terms = terms; args = args; sorts = sorts; items = items; coefficients = coefficients; splits = splits }

abbrev pub none : Room
none = room 0 0 0 0 0 0

abbrev pub both : Room → Room → Room
both r s = room (r.terms + s.terms) (r.args + s.args) (r.sorts + s.sorts) (r.items + s.items) (r.coefficients + s.coefficients) (r.splits + s.splits)

-- what all take together, where `need` says what each takes
abbrev pub total : {A : Type 0} → (A → Room) → List A → Room
total need [] = none
total need (a ∷ rest) = both (need a) (total need rest)

-- a number that would pass the greatest `usize` is that one
abbrev pub capped : ℕ → ℕ
capped n = min n (2 ^ 64 - 1)

abbrev pub capped_room : Room → Room
capped_room r = room (capped r.terms) (capped r.args) (capped r.sorts) (capped r.items) (capped r.coefficients) (capped r.splits)

-- what is taken is within the room
pub record IsWithin (taken r : Room) : Type 0 where
  pub terms : taken.terms ≤ r.terms
  pub args : taken.args ≤ r.args
  pub sorts : taken.sorts ≤ r.sorts
  pub items : taken.items ≤ r.items
  pub coefficients : taken.coefficients ≤ r.coefficients
  pub splits : taken.splits ≤ r.splits

-- no number is the greatest `usize`; no memory holds that many of anything
abbrev pub IsReal : Room → Type 0
IsReal r = IsWithin r (room (2 ^ 64 - 2) (2 ^ 64 - 2) (2 ^ 64 - 2) (2 ^ 64 - 2) (2 ^ 64 - 2) (2 ^ 64 - 2))
