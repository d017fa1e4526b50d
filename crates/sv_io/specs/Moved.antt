-- Believed: what was read from a source and written to a sink, and what each call was given, where they tell it. Hold it against docs/architecture.md on sources and sinks.
use Rattle.std.specs.Prelude.{◌≡◌, ℕ, ◌-◌, ◌<◌, List, [], ◌∷◌, ◌++◌, length, take, drop, min, Some, None}
use Rattle.std.specs.declared.option.Option.{Option}
use Rattle.sv_io.specs.Calls.{Taking, Putting}

-- these bytes are the front of what was left, up to a number of bytes, and are gone from it
abbrev pub ReadsUpTo : ℕ → Option (List ℕ) → Option (List ℕ) → List ℕ → Type 0
ReadsUpTo most None after bytes = Unit {0}
ReadsUpTo most (Some left) after bytes = (bytes ≡ take most left) × (after ≡ Some (drop most left))

-- the rooms of these calls: each 4,096 bytes, or as many as are missing to a number of bytes where these are fewer
abbrev pub AreRooms : ℕ → List Taking → Type 0
AreRooms missing [] = Unit {0}
AreRooms missing (call ∷ calls) = (call.room ≡ min 4096 missing) × AreRooms (missing - call.got) calls

-- the calls that were added are given such rooms
abbrev pub GivesRooms : ℕ → Option (List Taking) → Option (List Taking) → Type 0
GivesRooms most None after = Unit {0}
GivesRooms most (Some calls) after = (more : List Taking) × (after ≡ Some (calls ++ more)) × AreRooms most more

-- the text was appended to what is held
abbrev pub IsWritten : Option (List ℕ) → Option (List ℕ) → List ℕ → Type 0
IsWritten None after text = Unit {0}
IsWritten (Some held) after text = after ≡ Some (held ++ text)

-- a front of the text was, and bytes of it are left out
abbrev pub IsCutShort : Option (List ℕ) → Option (List ℕ) → List ℕ → Type 0
IsCutShort None after text = Unit {0}
IsCutShort (Some held) after text = (front rest : List ℕ) × (0 < length rest) × (text ≡ front ++ rest) × (after ≡ Some (held ++ front))

-- the pieces of these calls: each is all of the text that isn't taken yet
abbrev pub ArePieces : List ℕ → List Putting → Type 0
ArePieces text [] = Unit {0}
ArePieces text (call ∷ calls) = (call.piece ≡ text) × ArePieces (drop call.took text) calls

-- the calls that were added are given such pieces
abbrev pub GivesPieces : List ℕ → Option (List Putting) → Option (List Putting) → Type 0
GivesPieces text None after = Unit {0}
GivesPieces text (Some calls) after = (more : List Putting) × (after ≡ Some (calls ++ more)) × ArePieces text more
