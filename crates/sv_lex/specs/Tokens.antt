-- Believed: which tokens a text has, `Tokens text list`. Hold it against docs/language.md on tokens and annotation lines.
use Rattle.std.specs.Prelude.{◌≡◌, ◌≢◌, ℕ, ◌+◌, Bool, true, false, not, ◌&&◌, if◌then◌else◌, List, [], ◌∷◌, ◌++◌, Contains, codes, length}
use Rattle.std.specs.List.{AllPass}
use Rattle.sv_lex.specs.Bytes.{is_blank, is_newline, is_slash, is_star}
use Rattle.sv_lex.specs.Pieces.{Piece, space, line_comment, block_comment, token, written, Splits}
use Rattle.sv_lex.specs.declared.tok.Tok.{Tok}
use Rattle.sv_lex.specs.declared.tok.Tok.TheVariants.{Note, End}

-- a token: its kind, its bytes, and the offset of its first byte
pub record Lexeme : Type 0 where
  pub kind : Tok
  pub text : List ℕ
  pub at : ℕ

abbrev pub lexeme : Tok → List ℕ → ℕ → Lexeme
lexeme kind text at = record { kind = kind; text = text; at = at }

-- ---- documentation comments

-- the lines of a text: what stands between its newlines
abbrev pub put_before : ℕ → List (List ℕ) → List (List ℕ)
put_before b [] = (b ∷ []) ∷ []
put_before b (line ∷ lines) = (b ∷ line) ∷ lines

abbrev pub lines_of : List ℕ → List (List ℕ)
lines_of [] = [] ∷ []
lines_of (b ∷ bs) = if is_newline b then [] ∷ lines_of bs else put_before b (lines_of bs)

abbrev pub begins_with_slash : List ℕ → Bool
begins_with_slash [] = false
begins_with_slash (b ∷ _) = is_slash b

-- the documentation lines of a comment: a line comment has one where it begins with `///` and not with `////`, a block comment
-- has them where it begins with `/**` and isn't `/**/`
abbrev pub line_documentation : List ℕ → List (List ℕ)
line_documentation [] = []
line_documentation (b ∷ bs) = if (is_slash b && not (begins_with_slash bs)) then bs ∷ [] else []

abbrev pub block_documentation : List ℕ → List (List ℕ)
block_documentation [] = []
block_documentation (b ∷ bs) = if is_star b then lines_of bs else []

abbrev pub documentation : Piece → List (List ℕ)
documentation (line_comment body) = line_documentation body
documentation (block_comment body) = block_documentation body
documentation _ = []

-- whether stars may stand before the text of a documentation line
abbrev pub is_starred : Piece → Bool
is_starred (block_comment body) = true
is_starred _ = false

-- ---- annotation lines

abbrev pub annotation_words : List (List ℕ)
annotation_words = codes "invariant" ∷ codes "precondition" ∷ codes "postcondition" ∷ []

-- what is dropped before the text of a documentation line: blanks, and in a block comment stars and blanks again
pub record IsLead (starred : Bool) (lead : List ℕ) : Type 0 where
  pub before : List ℕ
  pub stars : List ℕ
  pub after : List ℕ
  pub spelled : lead ≡ before ++ stars ++ after
  pub blanks : AllPass is_blank before × AllPass is_blank after
  pub are_stars : AllPass is_star stars
  pub none : starred ≡ false → stars ≡ []

-- the parts of an annotation line: what is dropped, `@notice`, blanks, one of the words, a blank, and the content
pub record Opening : Type 0 where
  pub lead : List ℕ
  pub between : List ℕ
  pub word : List ℕ
  pub blank : ℕ
  pub content : List ℕ

pub record Opens (starred : Bool) (line : List ℕ) (o : Opening) : Type 0 where
  pub spelled : line ≡ o.lead ++ codes "@notice" ++ o.between ++ o.word ++ o.blank ∷ o.content
  pub lead_is : IsLead starred o.lead
  pub between_is : AllPass is_blank o.between × (o.between ≢ [])
  pub word_is : Contains annotation_words o.word
  pub blank_is : is_blank o.blank ≡ true

-- the offsets of the word and of the content of an annotation line that begins at this offset
abbrev pub word_at : ℕ → Opening → ℕ
word_at at o = at + length (o.lead ++ codes "@notice" ++ o.between)

abbrev pub content_at : ℕ → Opening → ℕ
content_at at o = word_at at o + length o.word + 1

-- the tokens among pieces that begin at the offset
abbrev pub tokens_among : ℕ → List Piece → List Lexeme
tokens_among at [] = []
tokens_among at (token kind bytes ∷ pieces) = lexeme kind bytes at ∷ tokens_among (at + length bytes) pieces
tokens_among at (space b ∷ pieces) = tokens_among (at + length (written (space b))) pieces
tokens_among at (line_comment body ∷ pieces) = tokens_among (at + length (written (line_comment body))) pieces
tokens_among at (block_comment body ∷ pieces) = tokens_among (at + length (written (block_comment body))) pieces

-- a Note, the tokens of the content, and an End
abbrev pub note_tokens : ℕ → Opening → List Piece → List Lexeme
note_tokens at o pieces =
    lexeme Note o.word (word_at at o) ∷ tokens_among (content_at at o) pieces ++ lexeme End [] (content_at at o + length o.content) ∷ []

-- a documentation line at the offset gives these tokens: none where it is no annotation line
pub data LineGives (starred : Bool) (at : ℕ) (line : List ℕ) (tokens : List Lexeme) : Type 0 where
  plain : ((o : Opening) → Opens starred line o → ⊥) → tokens ≡ [] → LineGives starred at line tokens
  annotation : (o : Opening) → Opens starred line o → (pieces : List Piece) → Splits o.content pieces []
      → tokens ≡ note_tokens at o pieces → LineGives starred at line tokens

-- the tokens of documentation lines, each a byte behind the end of the one before it
abbrev pub LinesGive : Bool → ℕ → List (List ℕ) → List Lexeme → Type 0
LinesGive starred at [] tokens = tokens ≡ []
LinesGive starred at (line ∷ lines) tokens =
    (first : List Lexeme) × (others : List Lexeme) × (tokens ≡ first ++ others)
    × LineGives starred at line first × LinesGive starred (at + length line + 1) lines others

-- ---- texts

-- the tokens of a piece at the offset; documentation begins with its fourth byte
abbrev pub PieceGives : ℕ → Piece → List Lexeme → Type 0
PieceGives at (space b) tokens = tokens ≡ []
PieceGives at (token kind bytes) tokens = tokens ≡ lexeme kind bytes at ∷ []
PieceGives at (line_comment body) tokens = LinesGive false (at + 3) (line_documentation body) tokens
PieceGives at (block_comment body) tokens = LinesGive true (at + 3) (block_documentation body) tokens

abbrev pub Gives : ℕ → List Piece → List Lexeme → Type 0
Gives at [] tokens = tokens ≡ []
Gives at (piece ∷ pieces) tokens =
    (first : List Lexeme) × (others : List Lexeme) × (tokens ≡ first ++ others)
    × PieceGives at piece first × Gives (at + length (written piece)) pieces others

-- the text has these tokens: it is pieces that fit, and they give the tokens
pub record Tokens (text : List ℕ) (list : List Lexeme) : Type 0 where
  pub pieces : List Piece
  pub split : Splits text pieces []
  pub given : Gives 0 pieces list
