-- Serves the proof: how a string is read, byte by byte.
use Rattle.std.specs.Prelude.{◌==◌, ℕ, ◌+◌, ◌-◌, ◌<◌, ◌≤◌, if◌then◌else◌, Option, Some, None, List, length, take, nat_lt}
use Rattle.sv_lex.specs.Bytes.{is_hex_digit}
use Rattle.sv_lex.specs.Forms.{IsString, is_plain, is_escaped}
use Rattle.sv_lex.specs.Faults.{BeginsString, IsOpenString}
use Rattle.sv_lex.specs.declared.string.State.{State}
use Rattle.sv_lex.specs.declared.string.State.TheVariants.{Plain, Escape, Digits}
use Rattle.sv_lex.specs.declared.string.StringEnd.{StringEnd}
use Rattle.sv_lex.specs.declared.string.StringEnd.TheVariants.{Whole, Broken}

-- the state behind one more byte, if it may come
abbrev pub step : ℕ → State → ℕ → Option State
step quote Plain b = if (b == 92) then Some Escape else (if is_plain quote b then Some Plain else None)
step quote Escape b =
    if is_escaped b then Some Plain else (if (b == 120) then Some (Digits 2) else (if (b == 117) then Some (Digits 4) else None))
step quote (Digits left) b = if is_hex_digit b then (if nat_lt 1 left then Some (Digits (left - 1)) else Some Plain) else None

-- the end of the string that the text begins
abbrev pub EndsString : List ℕ → StringEnd → Type 0
EndsString text (Whole n) = (n ≤ length text) × IsString (take n text)
EndsString text (Broken n) =
    (0 < n) × (n ≤ length text) × IsOpenString (take n text) × (n < length text → BeginsString (take (n + 1) text) → ⊥)
