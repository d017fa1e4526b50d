-- Believed: the first fault of a text that has no token list. Hold it against docs/language.md on `Char` and `Unclosed`.
use Rattle.std.specs.Prelude.{◌≡◌, ◌≢◌, ℕ, ◌+◌, ◌≤◌, ◌⊎◌, Bool, true, false, not, List, [], ◌∷◌, ◌++◌, codes, length}
use Rattle.std.specs.List.{AllPass}
use Rattle.sv_lex.specs.Bytes.{continues_word, is_newline, is_semicolon, DoesNotBegin, DoesBegin}
use Rattle.sv_lex.specs.Forms.{IsNumeral, IsString, pragma, begins_something}
use Rattle.sv_lex.specs.Pieces.{Piece, all_written, IsOpen, Starts, Splits}
use Rattle.sv_lex.specs.Tokens.{Lexeme, Opening, Opens, content_at, documentation, is_starred, LineGives, Gives}
use Rattle.sv_lex.specs.declared.fault.Flaw.{Flaw}
use Rattle.sv_lex.specs.declared.fault.Flaw.TheVariants.{Char, Unclosed}

-- the bytes begin a string
abbrev pub BeginsString : List ℕ → Type 0
BeginsString bytes = (more : List ℕ) × IsString (bytes ++ more)

-- a string has begun and has not ended
pub record IsOpenString (bytes : List ℕ) : Type 0 where
  pub some : bytes ≢ []
  pub begins : BeginsString bytes
  pub unfinished : IsString bytes → ⊥

-- no piece can stand at the beginning of the text, and why: the flaw, and how many bytes behind the beginning it is
pub data IsStuck (text : List ℕ) : Flaw → ℕ → Type 0 where
  -- nothing begins with the byte
  strange_byte : (b : ℕ) (rest : List ℕ) → text ≡ b ∷ rest → begins_something b ≡ false → IsStuck text Char 0
  -- a word character directly behind the longest number
  number_goes_on : (number rest : List ℕ) → text ≡ number ++ rest → IsNumeral number → DoesBegin continues_word rest
      → ((longer more : List ℕ) → text ≡ longer ++ more → IsNumeral longer → length longer ≤ length number)
      → IsStuck text Char (length number)
  -- a byte other than a newline with which a string can't go on
  broken_string : (front : List ℕ) (b : ℕ) (rest : List ℕ) → text ≡ front ++ b ∷ rest → IsOpenString front → is_newline b ≡ false
      → (BeginsString (front ++ b ∷ []) → ⊥) → IsStuck text Char 0
  -- a newline in a string, or the end of the text
  string_at_newline : (front : List ℕ) (b : ℕ) (rest : List ℕ) → text ≡ front ++ b ∷ rest → IsOpenString front → is_newline b ≡ true
      → IsStuck text Unclosed 0
  string_at_end : IsOpenString text → IsStuck text Unclosed 0
  open_comment : (body : List ℕ) → text ≡ codes "/*" ++ body → IsOpen body → IsStuck text Unclosed 0
  open_pragma : (body : List ℕ) → text ≡ pragma ++ body → DoesNotBegin continues_word body → AllPass (λ b. not (is_semicolon b)) body
      → IsStuck text Unclosed 0

-- an annotation line at the offset has its first fault there, in its content
pub record LineFails (starred : Bool) (at : ℕ) (line : List ℕ) (flaw : Flaw) (fault_at : ℕ) : Type 0 where
  pub opening : Opening
  pub opens : Opens starred line opening
  pub pieces : List Piece
  pub rest : List ℕ
  pub split : Splits opening.content pieces rest
  pub behind : ℕ
  pub stuck : IsStuck rest flaw behind
  pub place : fault_at ≡ content_at at opening + length (all_written pieces) + behind

-- the first of the documentation lines that has a fault has it there
abbrev pub LinesFail : Bool → ℕ → List (List ℕ) → Flaw → ℕ → Type 0
LinesFail starred at [] flaw fault_at = ⊥
LinesFail starred at (line ∷ lines) flaw fault_at =
    LineFails starred at line flaw fault_at
    ⊎ ((tokens : List Lexeme) × LineGives starred at line tokens × LinesFail starred (at + length line + 1) lines flaw fault_at)

-- what stands at the offset has a fault: no piece can stand there, or a comment does, and a line of it fails
pub data Fails (at : ℕ) (text : List ℕ) (flaw : Flaw) (fault_at : ℕ) : Type 0 where
  stuck : (behind : ℕ) → IsStuck text flaw behind → fault_at ≡ at + behind → Fails at text flaw fault_at
  in_comment : (comment : Piece) (rest : List ℕ) → Starts text comment rest
      → LinesFail (is_starred comment) (at + 3) (documentation comment) flaw fault_at → Fails at text flaw fault_at

-- the first fault of a text: the pieces before it have tokens, and what stands behind them has a fault
pub record FirstFault (text : List ℕ) (flaw : Flaw) (fault_at : ℕ) : Type 0 where
  pub pieces : List Piece
  pub rest : List ℕ
  pub tokens : List Lexeme
  pub split : Splits text pieces rest
  pub given : Gives 0 pieces tokens
  pub fails : Fails (length (all_written pieces)) rest flaw fault_at
