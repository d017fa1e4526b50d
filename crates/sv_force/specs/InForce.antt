-- Believed: the items in force by number: facts on terms, and rows. Hold it against the README's first paragraph.
use Rattle.std.specs.Prelude.{ℕ, ◌+◌, Bool, List, [], ◌∷◌, ◌≡◌, length, slice_get, Some}
use Rattle.sv_log.specs.LogEntries.{Row}

-- a fact says the term of that number, or its negation; or a row
pub data Held : Type 0 where
  FactOn : (sign : Bool) (term : ℕ) → Held
  RowOf : (r : Row) → Held

abbrev pub parts_of : Held → ℕ
parts_of (FactOn sign term) = 0
parts_of (RowOf r) = length r.parts

-- how many parts the rows have together
abbrev pub parts_in : List Held → ℕ
parts_in [] = 0
parts_in (h ∷ hs) = parts_of h + parts_in hs

-- the items in order, for how many there is room, and for how many parts of rows
pub record Force : Type 0 where
  pub items : List Held
  pub room : ℕ
  pub parts_room : ℕ

abbrev pub force : List Held → ℕ → ℕ → Force
force items room parts_room = record { items = items; room = room; parts_room = parts_room }

abbrev pub IsFactAt : List Held → ℕ → Type 0
IsFactAt items place = (sign : Bool) × (term : ℕ) × (slice_get items place ≡ Some (FactOn sign term))

abbrev pub IsRowAt : List Held → ℕ → Type 0
IsRowAt items place = (r : Row) × (slice_get items place ≡ Some (RowOf r))
