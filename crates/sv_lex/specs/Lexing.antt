-- Believed: what `lex` answers, and what a contract sees of a token and of a list of tokens. Hold it against docs/language.md on what refuses a text.
use Rattle.std.specs.Prelude.{◌≡◌, ℕ, ◌<◌, ◌≤◌, Option, Some, None, List, ◌∷◌, ◌++◌, Result, Ok, Err, length, slice_range}
use Rattle.sv_lex.specs.Faults.{FirstFault}
use Rattle.sv_lex.specs.Limits.{IsFirst, HasNo}
use Rattle.sv_lex.specs.Tokens.{Lexeme, Tokens}
use Rattle.sv_lex.specs.declared.fault.LexFault.{LexFault}
use Rattle.sv_lex.specs.declared.fault.LexFault.TheVariants.{Long, Char, Unclosed, Many, NoMemory}
use Rattle.sv_lex.specs.declared.fault.Flaw.TheVariants as flaw
use Rattle.sv_lex.specs.declared.token.Token.{Token}
use Rattle.sv_text.specs.Place.{line_of, column_of}
use Rattle.sv_text.specs.declared.place.Place.{Place}

-- the most bytes of a text, and the most tokens
abbrev pub limit : ℕ
limit = 1048576

abbrev pub most_tokens : ℕ
most_tokens = 200000

-- the place of the byte at the offset
abbrev pub place_at : List ℕ → ℕ → Place
place_at text at = record { line = line_of text at; col = column_of text at }

-- a text and its tokens
pub record Scanned : Type 0 where
  pub source : List ℕ
  pub list : List Lexeme

-- the lexeme that a token shows
abbrev pub shown : Token → Lexeme
shown token = record { kind = token.kind; text = token.text.now; at = token.span.from }

-- the token's text is the slice of its span, and its place is that of its first byte
pub record IsOf (source : List ℕ) (token : Token) : Type 0 where
  pub ordered : token.span.from ≤ token.span.to
  pub within : token.span.to ≤ length source
  pub slice : token.text.now ≡ slice_range source token.span.from token.span.to
  pub place : token.place ≡ place_at source token.span.from

-- the answer for a text
abbrev pub Answers : List ℕ → Result Scanned LexFault → Type 0
Answers text (Ok tokens) = (length text ≤ limit) × (tokens.source ≡ text) × Tokens text tokens.list × (length tokens.list ≤ most_tokens)
Answers text (Err Long) = limit < length text
Answers text (Err (Char place)) = (length text ≤ limit) × (at : ℕ) × FirstFault text flaw.Char at × (place ≡ place_at text at)
Answers text (Err (Unclosed place)) = (length text ≤ limit) × (at : ℕ) × FirstFault text flaw.Unclosed at × (place ≡ place_at text at)
Answers text (Err (Many place)) =
    (length text ≤ limit) × (list : List Lexeme) × Tokens text list
    × (before : List Lexeme) × (after : List Lexeme) × (t : Lexeme) × (list ≡ before ++ t ∷ after) × (length before ≡ most_tokens) × (place ≡ place_at text t.at)
Answers text (Err NoMemory) = length text ≤ limit

-- the place of the first such token, and none exactly where there is none
abbrev pub GivesFirst : (List Lexeme → Lexeme → Type 0) → Scanned → Option Place → Type 0
GivesFirst Such tokens (Some place) =
    (before : List Lexeme) × (t : Lexeme) × IsFirst Such tokens.list before t × (place ≡ place_at tokens.source t.at)
GivesFirst Such tokens None = HasNo Such tokens.list
