-- Serves the proof: a row of the code's table as one of the definition's.
use Rattle.std.specs.Prelude.{ℕ, List}
use Rattle.std.specs.Borrow.{Bor}
use Rattle.sv_text_type.specs.declared.text_type.TextType.{TextType}
use Rattle.sv_type_piece.specs.ElementaryTypes.{SpelledType, stands}

abbrev pub spelled_type : Bor (List ℕ) × TextType → SpelledType
spelled_type row = stands row.0.now row.1
