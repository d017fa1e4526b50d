-- Serves the proof: how far reading and writing have come, the invariants of the two loops.
use Rattle.std.specs.Prelude.{◌≡◌, ℕ, ◌+◌, List, [], ◌∷◌, ◌++◌, drop, Some, None}
use Rattle.std.specs.declared.option.Option.{Option}
use Rattle.sv_io.specs.Moved.{AreRooms, ArePieces}
use Rattle.sv_io.specs.Calls.{Taking, Putting}

-- these bytes were taken so far
abbrev pub HasTaken : Option (List ℕ) → Option (List ℕ) → List ℕ → Type 0
HasTaken None after bytes = Unit {0}
HasTaken (Some left) after bytes = (rest : List ℕ) × (after ≡ Some rest) × (left ≡ bytes ++ rest)

-- how many bytes the calls gave, and took
abbrev pub total_got : List Taking → ℕ
total_got [] = 0
total_got (call ∷ calls) = call.got + total_got calls

abbrev pub total_took : List Putting → ℕ
total_took [] = 0
total_took (call ∷ calls) = call.took + total_took calls

-- the calls so far gave this many bytes, in the rooms that are due
abbrev pub HasGivenRooms : ℕ → Option (List Taking) → Option (List Taking) → ℕ → Type 0
HasGivenRooms most None after amount = Unit {0}
HasGivenRooms most (Some calls) after amount =
    (more : List Taking) × (after ≡ Some (calls ++ more)) × AreRooms most more × (total_got more ≡ amount)

-- all of the text but this rest was appended
abbrev pub HasPut : Option (List ℕ) → Option (List ℕ) → List ℕ → List ℕ → Type 0
HasPut None after text rest = Unit {0}
HasPut (Some held) after text rest = (front : List ℕ) × (text ≡ front ++ rest) × (after ≡ Some (held ++ front))

-- the calls so far took all of the text but this rest, in the pieces that are due
abbrev pub HasGivenPieces : List ℕ → Option (List Putting) → Option (List Putting) → List ℕ → Type 0
HasGivenPieces text None after rest = Unit {0}
HasGivenPieces text (Some calls) after rest =
    (more : List Putting) × (after ≡ Some (calls ++ more)) × ArePieces text more × (drop (total_took more) text ≡ rest)
