-- Believed: the tokens of a text as the grammar sees them. Hold it against docs/grammar.md.
use Rattle.std.specs.Prelude.{ℕ, ◌+◌, List, map, length}
use Rattle.sv_text.specs.Place.{line_of, column_of}
use Rattle.sv_grammar.specs.Grammar.{Token}
use Rattle.sv_lex.specs.Tokens.{Lexeme}
use Rattle.sv_lex.specs.Lexing.{Scanned}
use Rattle.sv_ast.specs.Terminals.{code}
use Rattle.sv_read.specs.TokenClasses.{class_of}

-- a token of a text: its class, its text, and where it lies
abbrev pub token_of : List ℕ → Lexeme → Token
token_of source l =
    record {
      class = code (class_of l.kind l.text);
      text = l.text;
      extent = record { from = l.at; to = l.at + length l.text; line = line_of source l.at; column = column_of source l.at };
    }

abbrev pub tokens_of : Scanned → List Token
tokens_of s = map (token_of s.source) s.list
