-- Believed: what the form of a text is about: the kinds and the texts of its tokens, without their places. Hold it against docs/language.md.
use Rattle.std.specs.Prelude.{ℕ, List}
use Rattle.sv_lex.specs.Tokens.{Lexeme}
use Rattle.sv_lex.specs.declared.tok.Tok.{Tok}
use Rattle.sv_lex.specs.declared.token.Token.{Token}

pub record Symbol : Type 0 where
  pub kind : Tok
  pub text : List ℕ

abbrev pub symbol_with : Tok → List ℕ → Symbol
symbol_with kind text = record { kind = kind; text = text }

-- the symbol of a token, and of a lexeme
abbrev pub symbol : Token → Symbol
symbol token = symbol_with token.kind token.text.now

abbrev pub symbol_of : Lexeme → Symbol
symbol_of lexeme = symbol_with lexeme.kind lexeme.text
