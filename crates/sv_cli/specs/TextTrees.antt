-- Believed: trees of a text's tokens in the grammar, and how many of the tokens begin a list that has one. Hold it against docs/grammar.md, and docs/report.md on the place of `Syntax`.
use Rattle.std.specs.Prelude.{ℕ, List}
use Rattle.sv_ast.specs.Syntax as s
use Rattle.sv_ast.specs.Syntax.{rules}
use Rattle.sv_grammar.specs.Grammar.{Tree, Derives, side}
use Rattle.sv_grammar.specs.Reach.{Reaches}
use Rattle.sv_lex.specs.Lexing.{Scanned}
use Rattle.sv_lex.specs.Tokens.{Lexeme}
use Rattle.sv_parse_expr.specs.Answers.{place_of_token}
use Rattle.sv_parse_expr.specs.Given.{tokens_of}
use Rattle.sv_parse_unit.specs.AnswersUnit.{HasNoTree}
use Rattle.sv_text.specs.declared.place.Place.{Place}

-- a text and its tokens
abbrev pub with_tokens : List ℕ → List Lexeme → Scanned
with_tokens text tokens = record { source = text; list = tokens }

-- the tokens have a tree: all of them together are a text of the grammar
abbrev pub HasTree : List ℕ → List Lexeme → Type 0
HasTree text tokens = (t : Tree) × Derives rules (side s.unit) (tokens_of (with_tokens text tokens)) t

-- they have none
abbrev pub IsTreeless : List ℕ → List Lexeme → Type 0
IsTreeless text tokens = HasNoTree (with_tokens text tokens)

-- so many of the tokens, and no more, begin a list that has a tree
abbrev pub BeginsTree : List ℕ → List Lexeme → ℕ → Type 0
BeginsTree text tokens reach = Reaches rules (side s.unit) (tokens_of (with_tokens text tokens)) 0 reach

-- the place of the token behind so many, and of the end of the text where there is none
abbrev pub place_behind : List ℕ → List Lexeme → ℕ → Place
place_behind text tokens reach = place_of_token (with_tokens text tokens) reach
