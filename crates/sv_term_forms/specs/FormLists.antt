-- Believed: what a contract sees of the forms of a list of terms, and what a call tells of every such list. Hold it against the README's table of calls.
use Rattle.std.specs.Prelude.{ℕ, Bool, IsTrue, List, ◌↔◌}
use Rattle.sv_term.specs.Terms.{Term}
use Rattle.sv_term.specs.FactRules.{Fact, Says}
use Rattle.sv_log.specs.LogEntries.{Row}
use Rattle.sv_log.specs.FormsOfTerms.{IsFormOf}
use Rattle.sv_log.specs.Logs.{nth_term}
use Rattle.sv_row.specs.RowParts.{IsNormal}
use Rattle.sv_form.specs.declared.node.Linear.{Linear}
use Rattle.sv_form_rows.specs.TermForms.{AreFormsOf}

-- the nodes in order, and for how many there is room
pub record FormList : Type 0 where
  pub nodes : List Linear
  pub room : ℕ

abbrev pub form_list : List Linear → ℕ → FormList
form_list nodes room = record { nodes = nodes; room = room }

-- for every list of terms that these are the nodes of, it is true exactly where the row is the form of the fact on the term of number n
abbrev pub AnswersForm : List Linear → Bool → ℕ → Bool → Row → Bool → Type 0
AnswersForm nodes sign n forward r answer =
    (ts : List Term) → AreFormsOf ts nodes → IsTrue answer ↔ IsFormOf ts (Says sign (nth_term ts n)) forward r

-- a row that is the form of a fact is in normal form: its columns rise, and no number is 0
abbrev pub FormsAreNormal : Type 0
FormsAreNormal = (ts : List Term) (f : Fact) (forward : Bool) (r : Row) → IsFormOf ts f forward r → IsNormal r.parts
