-- Serves the proof: what whoever asks for names knows, and what is kept when a node is entered or left.
use Rattle.std.specs.Prelude.{ℕ, Bool, true, false, not, cond, ◌&&◌}
use Rattle.sv_text.specs.declared.place.Place.{Place}
use Rattle.sv_book.specs.Visits.{State, kept, opened, closed}
use Rattle.sv_rule.specs.declared.fault.Rule.TheVariants as rule
use Rattle.sv_rule.specs.declared.fault.Fault.{Fault}
use Rattle.sv_rule.specs.RuleFaults.{first}
use Rattle.sv_visit.specs.Sites.{Site}
use Rattle.sv_naming.specs.NamesKnown.{Known, known_of, function_entered, scope_left}
use Rattle.sv_name_book.specs.NameBook.{names_book}
use Rattle.sv_names.specs.declared.asker.NameJudge.{NameJudge}

abbrev pub state_of : NameJudge → State Known Fault
state_of j = record { known = known_of j.naming; clear = j.pass.clear; least = j.pass.least }

-- a node is entered, within which this is known
abbrev pub entered : NameJudge → Known → State Known Fault
entered j k = record { known = k; clear = true; least = j.pass.least }

-- a function with so many parameters is entered
abbrev pub function_opened : NameJudge → ℕ → Bool → State Known Fault
function_opened j params in_constructor = entered j (function_entered params in_constructor (known_of j.naming))

abbrev pub unknown_at : Place → Fault
unknown_at at = record { rule = rule.Unknown; place = at }

-- a node at a place is left, behind which this is known; all its names are known or not
abbrev pub left : NameJudge → Known → Bool → Bool → Place → State Known Fault
left j k before known at = record {
  known = k;
  clear = before && (j.pass.clear && cond (not known) false true);
  least = kept first j.pass.clear (not known) (unknown_at at) j.pass.least;
}

-- a node without names is left
abbrev pub left_with : NameJudge → Known → Bool → State Known Fault
left_with j k before = record { known = k; clear = before && (j.pass.clear && true); least = j.pass.least }

abbrev pub left_quiet : NameJudge → Bool → State Known Fault
left_quiet j before = left_with j (known_of j.naming) before

abbrev pub left_scope : NameJudge → Bool → State Known Fault
left_scope j before = left_with j (scope_left (known_of j.naming)) before

-- what the group says of a node that is entered or left
abbrev pub opened_at : NameJudge → Site → State Known Fault
opened_at j s = opened names_book s (state_of j)

abbrev pub closed_at : NameJudge → Bool → Site → State Known Fault
closed_at j before s = closed names_book s before (state_of j)
