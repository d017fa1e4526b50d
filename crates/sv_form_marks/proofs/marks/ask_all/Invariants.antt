use Rattle.std.proofs.Common.{◌≡◌, length}
use Rattle.std.specs.Prelude.{◌&&◌}
use Rattle.sv_book.specs.Visits.{asked, sound}
use Rattle.sv_form_marks.specs.FormMarks.{marks_table}
use Rattle.sv_form_marks.proofs.marks.ask_all.Given as goal

abbrev pub decreases-rules : goal.decreases-rules
decreases-rules l = length l.left

abbrev pub invariant-rules : goal.invariant-rules
invariant-rules l =
    ((l.pass.clear && sound (marks_table l.place) l.left l.marks) ≡ (l.fn.pass.clear && sound (marks_table l.place) l.fn.rules l.marks))
    × (asked (marks_table l.place) l.left l.parts l.pass.least l.marks ≡ asked (marks_table l.place) l.fn.rules l.fn.pass.clear l.fn.pass.least l.marks)
