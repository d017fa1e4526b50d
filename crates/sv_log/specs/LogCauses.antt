-- Believed: why an entry is rejected, the first cause that applies. Hold it against the README's list of causes.
use Rattle.std.specs.Prelude.{ℕ, ◌<◌}
use Rattle.sv_log.specs.LogEntries as l
use Rattle.sv_log.specs.Logs as s

pub data Why : Type 0 where
  After : Why
  NoTerm : Why
  NoItem : Why
  Sort : Why
  Repeat : Why
  Rule : Why
  Row : Why
  Branch : Why

-- the condition whose failure is the cause
abbrev pub Asked : Why → s.State → l.Entry → Type 0
Asked After st e = s.IsTimely st e
Asked NoTerm st e = s.HasTerms st e
Asked NoItem st e = s.HasItems st e
Asked Sort st e = s.IsFitting st e
Asked Repeat st e = s.IsNew st e
Asked Rule st e = s.IsGiven st e
Asked Row st e = s.IsStated st e
Asked Branch st e = s.IsBranching st e

-- the place of a cause in the order in which they are tried
abbrev pub place_of : Why → ℕ
place_of After = 0
place_of NoTerm = 1
place_of NoItem = 2
place_of Sort = 3
place_of Repeat = 4
place_of Rule = 5
place_of Row = 6
place_of Branch = 7

-- the condition fails, and all that are tried before it hold
pub record IsFirstFault (st : s.State) (e : l.Entry) (why : Why) : Type 0 where
  pub fails : Asked why st e → ⊥
  pub before : (w : Why) → place_of w < place_of why → Asked w st e
