use Rattle.std.proofs.Common.{refl}
use Rattle.sv_read.proofs.Exits.{left_by}
use Rattle.sv_ast.specs.Syntax as s
use Rattle.sv_notes.proofs.lines.NoteParseLines.parse.Goals as goal

pub placed-requires : goal.placed-requires
placed-requires c = c.requires

pub returns-in_err-word : goal.returns-in_err-word
returns-in_err-word c = left_by _ _ _ _ _ _ c.from_residual.ensures (c.in_err-word.ensures s.note_line refl)

pub returns : goal.returns
returns c = c.in_ok-word.ensures s.note_line refl
