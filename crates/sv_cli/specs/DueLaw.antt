-- Believed: what the law `due_is_one` says: one answer is due for a text. Hold it against docs/report.md.
use Rattle.std.specs.Prelude.{◌≡◌, ℕ, List}
use Rattle.sv_cli.specs.Due.{IsDue}
use Rattle.sv_report.specs.declared.ended.Ended.{Ended}

-- what is due for a text is one: the bytes and the ending are functions of the text
abbrev pub DueIsOne : Type 0
DueIsOne = (text due other : List ℕ) (ended other_ended : Ended)
    → IsDue text due ended → IsDue text other other_ended → (due ≡ other) × (ended ≡ other_ended)
