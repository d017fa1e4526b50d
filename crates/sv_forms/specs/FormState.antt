-- Serves the proof: what whoever asks the first group of rules knows, and what it keeps when a node is entered or left.
use Rattle.std.specs.Prelude.{ℕ, Bool, true, false, ◌&&◌, List}
use Rattle.sv_text.specs.declared.place.Place.{Place}
use Rattle.sv_ast.specs.declared.unit.UnitItem.{UnitItem}
use Rattle.sv_book.specs.Visits.{State, asked, sound, opened, closed}
use Rattle.sv_rule.specs.declared.fault.Fault.{Fault}
use Rattle.sv_plain.specs.PlainExprs.{Kind}
use Rattle.sv_visit.specs.declared.judge.Role.{Role}
use Rattle.sv_visit.specs.Sites.{Site}
use Rattle.sv_annotation.specs.Openings.{calls_old}
use Rattle.sv_form_rules.specs.NodeRules.{is_wide, is_address_literal, assigns_inside, raises_others}
use Rattle.sv_form_book.specs.declared.known.Inside.{Inside}
use Rattle.sv_form_book.specs.declared.known.Owner.{Owner}
use Rattle.sv_form_book.specs.declared.known.Notes.{Notes}
use Rattle.sv_form_book.specs.declared.known.Rests.{Rests}
use Rattle.sv_form_rules.specs.HeadWords.{no_words}
use Rattle.sv_form_marks.specs.declared.marks.Marks.{Marks}
use Rattle.sv_form_marks.specs.FormMarks.{group, marks_table}
use Rattle.sv_form_book.specs.FormKnown.{Known}
use Rattle.sv_form_book.specs.FormRules.{is_another, forms_book}
use Rattle.sv_forms.specs.declared.around.Around.{Around}
use Rattle.sv_forms.specs.declared.asker.Forms.{Forms}

abbrev pub known_from : List (List ℕ) → List UnitItem → Around → Known
known_from names items a = record {
  names = names;
  items = items;
  contract = a.contract;
  in_interface = a.in_interface;
  owner = a.owner;
  notes = a.notes;
  inside = a.inside;
  loops = a.loops;
  blocks = a.blocks;
  rests = a.rests;
  words = a.words;
}

abbrev pub known_of : Forms → Known
known_of j = known_from j.names.now j.bases j.around

abbrev pub state_of : Forms → State Known Fault
state_of j = record { known = known_of j; clear = j.pass.clear; least = j.pass.least }

-- a node is entered, within which this is around
abbrev pub entered : Forms → Around → State Known Fault
entered j a = record { known = known_from j.names.now j.bases a; clear = true; least = j.pass.least }

-- a declaration with words of its own is entered
abbrev pub entered_owner : Forms → Owner → Notes → Rests → State Known Fault
entered_owner j owner notes rests = record {
  known = record {
    names = j.names.now;
    items = j.bases;
    contract = j.around.contract;
    in_interface = j.around.in_interface;
    owner = owner;
    notes = notes;
    inside = j.around.inside;
    loops = j.around.loops;
    blocks = j.around.blocks;
    rests = rests;
    words = no_words;
  };
  clear = true;
  least = j.pass.least;
}

-- a node at a place is left, behind which this is around
abbrev pub left : Forms → Around → Bool → Marks → Place → State Known Fault
left j a before m place = record {
  known = known_from j.names.now j.bases a;
  clear = before && (j.pass.clear && sound (marks_table place) group m);
  least = asked (marks_table place) group j.pass.clear j.pass.least m;
}

-- a node of which no rule speaks is left
abbrev pub left_quiet : Forms → Bool → State Known Fault
left_quiet j before = record { known = known_of j; clear = before && (j.pass.clear && true); least = j.pass.least }

-- which rules an expression breaks
abbrev pub expr_marks : List (List ℕ) → Inside → Role → Kind → Marks
expr_marks names inside role k = record {
  no_contract = false;
  wide_literal = is_wide names k;
  address_literal = is_address_literal names k;
  unchecked = false;
  note = is_another inside && calls_old names k;
  placeholder = false;
  jump = false;
  assign = assigns_inside role k;
  head = false;
  power = raises_others k;
}

-- what the group says of a node that is entered or left
abbrev pub opened_at : Forms → Site → State Known Fault
opened_at j s = opened forms_book s (state_of j)

abbrev pub closed_at : Forms → Bool → Site → State Known Fault
closed_at j before s = closed forms_book s before (state_of j)
