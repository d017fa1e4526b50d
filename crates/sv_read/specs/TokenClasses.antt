-- Believed: the class of a token by its kind and text. Hold it against docs/grammar.md.
use Rattle.std.specs.Prelude.{ℕ, List}
use Rattle.sv_lex.specs.declared.tok.Tok.{Tok}
use Rattle.sv_lex.specs.declared.tok.Tok.TheVariants as tok
use Rattle.sv_ast.specs.Classes.{class_of_word, class_of_mark}
use Rattle.sv_ast.specs.declared.class.Class.{Class}
use Rattle.sv_ast.specs.declared.class.Class.TheVariants as k

-- the class of a token of this kind with this text
abbrev pub class_of : Tok → List ℕ → Class
class_of tok.Word text = class_of_word text
class_of tok.Number text = k.Number
class_of tok.Hex text = k.Hexadecimal
class_of tok.Str text = k.StringLiteral
class_of tok.Punct text = class_of_mark text
class_of tok.Pragma text = k.Pragma
class_of tok.Note text = k.Note
class_of tok.End text = k.NoteEnd
