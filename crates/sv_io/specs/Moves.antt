-- Believed: what one call of a source or a sink moves, and the cause of a fault. Hold it against what std's documentation says of `read` and `write`, and docs/report.md on faults.
use Rattle.std.specs.Prelude.{◌≡◌, ℕ, ◌+◌, ◌-◌, ◌^◌, ◌≤◌, List, [], ◌++◌, length, take, drop, min, Some, None}
use Rattle.std.specs.declared.option.Option.{Option}
use Rattle.sv_io.specs.declared.source.Taken.{Taken}
use Rattle.sv_io.specs.declared.source.Taken.TheVariants.{Got, End, Failed}
use Rattle.sv_io.specs.declared.sink.Put.{Put}
use Rattle.sv_io.specs.declared.sink.Put.TheVariants.{Took, Failed as PutFailed}

-- the greatest value of a count
abbrev pub count_end : ℕ
count_end = 2 ^ 64 - 1

-- a count one higher, which stays at its end
abbrev pub count_after : ℕ → ℕ
count_after n = min (n + 1) count_end

-- a count is greater than it was, or stands at its end
abbrev pub Rose : ℕ → ℕ → Type 0
Rose before now = count_after before ≤ now

-- the count of faults after a call: one higher where the call failed
abbrev pub faults_after_take : Taken → ℕ → ℕ
faults_after_take (Got n) faults = faults
faults_after_take End faults = faults
faults_after_take Failed faults = count_after faults

abbrev pub faults_after_put : Put → ℕ → ℕ
faults_after_put (Took n) faults = faults
faults_after_put PutFailed faults = count_after faults

-- the amount is at least one byte and at most the room
abbrev pub IsAmountTaken : Taken → ℕ → Type 0
IsAmountTaken (Got n) room = (1 ≤ n) × (n ≤ room)
IsAmountTaken End room = Unit {0}
IsAmountTaken Failed room = Unit {0}

-- told before, where told: the bytes taken are the front of what was left, and are gone from it
abbrev pub TakesFront : Option (List ℕ) → Option (List ℕ) → Taken → List ℕ → Type 0
TakesFront None after answer buffer = Unit {0}
TakesFront (Some left) after (Got n) buffer = (n ≤ length left) × (take n buffer ≡ take n left) × (after ≡ Some (drop n left))
TakesFront (Some left) after End buffer = (left ≡ []) × (after ≡ Some left)
TakesFront (Some left) after Failed buffer = after ≡ Some left

-- the amount is at least one byte and at most the piece
abbrev pub IsAmountPut : Put → ℕ → Type 0
IsAmountPut (Took n) piece = (1 ≤ n) × (n ≤ piece)
IsAmountPut PutFailed piece = Unit {0}

-- where told: the front of the piece is appended to what is held
abbrev pub Appends : Option (List ℕ) → Option (List ℕ) → Put → List ℕ → Type 0
Appends None after answer piece = Unit {0}
Appends (Some held) after (Took n) piece = after ≡ Some (held ++ take n piece)
Appends (Some held) after PutFailed piece = after ≡ Some held

-- room that a sink surely takes: a put uses what it took of it, and fails only where none is left
abbrev pub UsesRoom : ℕ → ℕ → Put → Type 0
UsesRoom before after (Took n) = before ≤ after + n
UsesRoom before after PutFailed = before ≡ 0

-- a fact about the amount, where there is one
abbrev pub IfGot : Taken → (ℕ → Type 0) → Type 0
IfGot (Got n) P = P n
IfGot _ P = Unit {0}

abbrev pub IfTook : Put → (ℕ → Type 0) → Type 0
IfTook (Took n) P = P n
IfTook _ P = Unit {0}
