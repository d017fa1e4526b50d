-- Believed: what the program's answer says of the source and the sink. Hold it against docs/report.md on the exit status.
use Rattle.std.specs.Prelude.{◌≡◌, ℕ, ◌+◌, ◌≤◌, ◌⊎◌, List, [], length, drop, map, string_bytes, Some, None, String, Vec}
use Rattle.std.specs.declared.option.Option.{Option}
use Rattle.std.specs.declared.alloc.Global.{Global}
use Rattle.sv_cli.specs.Due.{IsDue}
use Rattle.sv_io.specs.Moved.{IsWritten, IsCutShort, GivesPieces}
use Rattle.sv_report.specs.declared.ended.Ended.{Ended}
use Rattle.sv_report.specs.declared.ended.Ended.TheVariants.{Holds, Unheld, Refused}
use Rattle.sv_io.specs.Calls.{Putting}
use Rattle.sv_io.specs.Moves.{Rose}
use Rattle.sv_lex.specs.Lexing.{limit}

-- the words of a command line
abbrev pub texts : Vec (String Global) Global → List (List ℕ)
texts words = map string_bytes words.items

-- the words that the program takes: none
abbrev pub IsListed : List (List ℕ) → Type 0
IsListed words = words ≡ []

-- where the source tells it: the text is what was left, and it was read to its end, or to one byte over the limit
abbrev pub IsReadTo : Option (List ℕ) → Option (List ℕ) → List ℕ → Type 0
IsReadTo None after text = Unit {0}
IsReadTo (Some left) after text = (text ≡ left) × (after ≡ Some (drop (limit + 1) left))

-- these bytes are due by the text that was read, and the program ends so where they are written
pub record IsDueFrom (left left' : Option (List ℕ)) (due : List ℕ) (ended : Ended) : Type 0 where
  pub text : List ℕ
  pub read : IsReadTo left left' text
  pub due_is : IsDue text due ended

-- a sink before and after: the bytes that it holds, how often it was called and failed, and its calls, where it tells them
pub record Sank : Type 0 where
  pub held : Option (List ℕ)
  pub puts : ℕ
  pub faults : ℕ
  pub calls : Option (List Putting)

-- the program ended so by the text that was read, and all that was due is written, by at most a put for each byte
pub record Answered (left left' : Option (List ℕ)) (before after : Sank) (ended : Ended) : Type 0 where
  pub due : List ℕ
  pub is_due : IsDueFrom left left' due ended
  pub written : IsWritten before.held after.held due
  pub counted : after.puts ≤ before.puts + length due
  pub pieces : GivesPieces due before.calls after.calls

-- the sink failed, and a front of what was due by the text that was read is written
pub record IsCut (left left' : Option (List ℕ)) (before after : Sank) : Type 0 where
  pub due : List ℕ
  pub ended : Ended
  pub is_due : IsDueFrom left left' due ended
  pub written : IsCutShort before.held after.held due
  pub counted : after.puts ≤ before.puts + length due
  pub pieces : GivesPieces due before.calls after.calls
  pub rose : Rose before.faults after.faults

-- the answers under which all that was due is written
abbrev pub IsWhole : Ended → Type 0
IsWhole ended = (ended ≡ Holds) ⊎ (ended ≡ Unheld) ⊎ (ended ≡ Refused)

-- whatever is due for the text, it is at most so many bytes
abbrev pub IsDueWithin : List ℕ → ℕ → Type 0
IsDueWithin text room = (due : List ℕ) (ended : Ended) → IsDue text due ended → length due ≤ room
