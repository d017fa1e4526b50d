-- Believed: the pieces in which a text is written, separators, comments and tokens. Hold it against docs/language.md on tokens.
use Rattle.std.specs.Prelude.{◌≡◌, ℕ, true, not, List, [], ◌∷◌, ◌++◌, codes}
use Rattle.std.specs.List.{AllPass, flat_map}
use Rattle.sv_lex.specs.Bytes.{is_separator, is_newline}
use Rattle.sv_lex.specs.Forms.{IsToken, MayFollow}
use Rattle.sv_lex.specs.declared.tok.Tok.{Tok}

pub data Piece : Type 0 where
  space : ℕ → Piece
  -- `//` and this
  line_comment : List ℕ → Piece
  -- `/*`, this and `*/`
  block_comment : List ℕ → Piece
  token : Tok → List ℕ → Piece

-- the bytes of a piece, and of several in a row
abbrev pub written : Piece → List ℕ
written (space b) = b ∷ []
written (line_comment body) = codes "//" ++ body
written (block_comment body) = codes "/*" ++ body ++ codes "*/"
written (token kind bytes) = bytes

abbrev pub all_written : List Piece → List ℕ
all_written pieces = flat_map written pieces

-- a line ends before this text
abbrev pub EndsLine : List ℕ → Type 0
EndsLine [] = Unit {0}
EndsLine (b ∷ _) = is_newline b ≡ true

-- the bytes have no newline, and no `*/`
abbrev pub IsOneLine : List ℕ → Type 0
IsOneLine bytes = AllPass (λ b. not (is_newline b)) bytes

abbrev pub IsOpen : List ℕ → Type 0
IsOpen bytes = (front back : List ℕ) → bytes ≡ front ++ codes "*/" ++ back → ⊥

-- the piece has its form, and the rest of the text may follow it
abbrev pub Fits : Piece → List ℕ → Type 0
Fits (space b) rest = is_separator b ≡ true
Fits (line_comment body) rest = IsOneLine body × EndsLine rest
Fits (block_comment body) rest = IsOpen body
Fits (token kind bytes) rest = IsToken kind bytes × MayFollow kind bytes rest

-- the text begins with the piece, and this is the rest
pub record Starts (text : List ℕ) (piece : Piece) (rest : List ℕ) : Type 0 where
  pub spelled : text ≡ written piece ++ rest
  pub fits : Fits piece rest

-- each of the pieces fits, where the others and then the rest follow it
abbrev pub AllFit : List Piece → List ℕ → Type 0
AllFit [] rest = Unit {0}
AllFit (piece ∷ pieces) rest = Fits piece (all_written pieces ++ rest) × AllFit pieces rest

-- the text is these pieces, and then the rest
pub record Splits (text : List ℕ) (pieces : List Piece) (rest : List ℕ) : Type 0 where
  pub spelled : text ≡ all_written pieces ++ rest
  pub fit : AllFit pieces rest
