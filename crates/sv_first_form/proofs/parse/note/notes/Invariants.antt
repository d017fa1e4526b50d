use Rattle.std.proofs.Common.{length, map}
use Rattle.sv_first_form.specs.FormParts.{note_part, EndsNotes}
use Rattle.sv_first_form.specs.FormReading.{IsSofar}
use Rattle.sv_first_form.specs.FormSymbols.{symbol}
use Rattle.sv_first_form.proofs.parse.note.notes.Given as goal

abbrev pub invariant-notes : goal.invariant-notes
invariant-notes l = IsSofar (note_part l.names) EndsNotes (map symbol l.fn.tokens) l.notes l.cursor

abbrev pub decreases-notes : goal.decreases-notes
decreases-notes l = length l.cursor
