-- Serves the proof: which rules of the first group a node breaks, as marks, and what a pass keeps of them.
use Rattle.std.specs.Prelude.{Bool, false, List, [], ◌∷◌}
use Rattle.sv_text.specs.declared.place.Place.{Place}
use Rattle.sv_book.specs.Books.{Table}
use Rattle.sv_rule.specs.declared.fault.Rule.{Rule}
use Rattle.sv_rule.specs.declared.fault.Rule.TheVariants as rule
use Rattle.sv_rule.specs.declared.fault.Fault.{Fault}
use Rattle.sv_rule.specs.RuleFaults.{first}
use Rattle.sv_form_marks.specs.declared.marks.Marks.{Marks}

abbrev pub no_marks : Marks
no_marks = record { no_contract = false; wide_literal = false; address_literal = false; unchecked = false; note = false; placeholder = false; jump = false; assign = false; head = false; power = false }

abbrev pub marked : Rule → Marks → Bool
marked rule.NoContract m = m.no_contract
marked rule.WideLiteral m = m.wide_literal
marked rule.AddressLiteral m = m.address_literal
marked rule.Unchecked m = m.unchecked
marked rule.Note m = m.note
marked rule.Placeholder m = m.placeholder
marked rule.Jump m = m.jump
marked rule.Assign m = m.assign
marked rule.Head m = m.head
marked rule.Power m = m.power
marked _ m = false

abbrev pub group : List Rule
group = rule.NoContract ∷ rule.WideLiteral ∷ rule.AddressLiteral ∷ rule.Unchecked ∷ rule.Note ∷ rule.Placeholder ∷ rule.Jump ∷ rule.Assign ∷ rule.Head ∷ rule.Power ∷ []

-- the marks of a node at a place, as a table of rules
abbrev pub marks_table : Place → Table Marks Rule Fault
marks_table place = record {
  rules = group;
  breaks = marked;
  fault = λ r m. record { rule = r; place = place };
  first = first;
}
