-- Serves the proof: what the code reads of a documentation comment.
use Rattle.std.specs.Prelude.{◌≡◌, ℕ, Bool, List, [], ◌∷◌, ◌++◌, Option, Some, None, length}
use Rattle.sv_lex.specs.Pieces.{Piece, IsOneLine, written}
use Rattle.sv_lex.specs.Tokens.{Opening, Opens, IsLead, documentation, is_starred, lines_of, word_at}
use Rattle.sv_lex.specs.declared.documentation.Documentation.{Documentation}
use Rattle.sv_lex.specs.declared.documentation.Opening.{Opening as Found}

-- the piece is a comment whose documentation lines are those of the text, which begins with its fourth byte
pub record IsNote (piece : Piece) (text : List ℕ) (starred : Bool) : Type 0 where
  pub opener : List ℕ
  pub closer : List ℕ
  pub spelled : written piece ≡ opener ++ (text ++ closer)
  pub three : length opener ≡ 3
  pub lines : documentation piece ≡ lines_of text
  pub starred_is : is_starred piece ≡ starred

-- the documentation that the piece is, and none where it is none
abbrev pub DocumentsAs : Piece → Option Documentation → Type 0
DocumentsAs piece (Some found) = IsNote piece found.text.now found.is_starred
DocumentsAs piece None = documentation piece ≡ []

-- the line is the first of the text, and this follows its newline, where it has one
abbrev pub SplitsLine : List ℕ → List ℕ → Option (List ℕ) → Type 0
SplitsLine text line None = (text ≡ line) × IsOneLine line
SplitsLine text line (Some rest) = (text ≡ line ++ 10 ∷ rest) × IsOneLine line

-- the rest is behind what is dropped at the line's beginning, and an `@` can't stand behind anything else that is dropped
pub record IsLeadOf (starred : Bool) (line rest : List ℕ) : Type 0 where
  pub lead : List ℕ
  pub spelled : line ≡ lead ++ rest
  pub lead_is : IsLead starred lead
  pub only : (other more : List ℕ) → IsLead starred other → line ≡ other ++ 64 ∷ more → (other ≡ lead) × (rest ≡ 64 ∷ more)

-- the line is an annotation line, and these are its parts
pub record OpensAs (starred : Bool) (line : List ℕ) (found : Found) : Type 0 where
  pub opening : Opening
  pub opens : Opens starred line opening
  pub before : found.before ≡ word_at 0 opening
  pub word : found.word.now ≡ opening.word
  pub content : found.content.now ≡ opening.content
