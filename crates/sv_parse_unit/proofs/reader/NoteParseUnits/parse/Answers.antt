use Rattle.sv_parse_unit.proofs.reader.NoteParseUnits.parse.Goals as goal

pub returns : goal.returns
returns c = c.read_note.ensures
