-- Believed: what the laws of logs say. Hold it against the definitions that they name.
use Rattle.std.specs.Prelude.{List, ◌≡◌, true}
use Rattle.sv_term.specs.Terms.{Term}
use Rattle.sv_term.specs.Models.{is_claim, Valid}
use Rattle.sv_log.specs.LogEntries.{Entry}
use Rattle.sv_log.specs.Logs.{State, IsAllowed, IsAccepted, IsClosed, after_all, begun}
use Rattle.sv_log.specs.LogCauses.{Why, IsFirstFault}

-- a log that is accepted from a condition and closed makes the condition true in every model
abbrev pub ClosedIsValid : Type 0
ClosedIsValid = (goal : Term) (es : List Entry)
    → is_claim goal ≡ true → IsAccepted (begun goal) es → IsClosed (after_all (begun goal) es) → Valid goal

-- an entry with a first fault isn't allowed, and has no other first fault
pub record CausesAreExact : Type 0 where
  pub refused : (s : State) (e : Entry) (w : Why) → IsFirstFault s e w → IsAllowed s e → ⊥
  pub one : (s : State) (e : Entry) (v w : Why) → IsFirstFault s e v → IsFirstFault s e w → v ≡ w
