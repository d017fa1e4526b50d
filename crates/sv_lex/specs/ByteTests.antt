-- Serves the proof: the tests of the code's classes of bytes.
use Rattle.std.specs.Prelude.{ℕ, Bool, not}
use Rattle.sv_lex.specs.Bytes.{is_digit, is_hex_digit, begins_word, continues_word, is_blank, is_star, is_separator, is_newline, is_semicolon}
use Rattle.sv_lex.specs.declared.bytes.Class.{Class}
use Rattle.sv_lex.specs.declared.bytes.Class.TheVariants.{Digit, HexDigit, WordStart, InWord, Blank, Star, Separator, InLine, InPragma}

abbrev pub is_of : Class → ℕ → Bool
is_of Digit b = is_digit b
is_of HexDigit b = is_hex_digit b
is_of WordStart b = begins_word b
is_of InWord b = continues_word b
is_of Blank b = is_blank b
is_of Star b = is_star b
is_of Separator b = is_separator b
is_of InLine b = not (is_newline b)
is_of InPragma b = not (is_semicolon b)
